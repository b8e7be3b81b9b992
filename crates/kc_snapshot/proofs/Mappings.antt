-- The slots and the pages that are made from a description, one after another.
use Rattle.std.proofs.Common.{ℕ, zero, suc, ◌≡◌, ◌<◌, ◌≤◌, ◌+◌, inl, inr, List, [], ◌∷◌, ◌++◌, length, get_or, drop, map, Option, Some, None, refl, sym, ap, subst, ◌∙◌, arith, length-append}
use Rattle.std.specs.List.{range_with_len}
use Rattle.std.proofs.lemmas.List.FromFn.{map-range_with_len_more}
use Rattle.std.proofs.Math.Seq.{get_or-append_seam}
use Rattle.std.proofs.lemmas.Bool.{cases_lt}
use Rattle.std.proofs.lemmas.List.{get_or_append_left, get_or_default}
use Rattle.kc_types.specs.Configuration.{roots_of}
use Rattle.kc_vms.specs.Stage2.{AreMappings}
use Rattle.kc_vms.specs.Vm.{VmSlot, capacity_for}
use Rattle.kc_dump.specs.Dump.{Dumped, slot_dump_at}
use Rattle.kc_dump.specs.Ranges.{IsDump}
use Rattle.kc_dump.specs.Sound.{IsSound}
use Rattle.kc_dump.proofs.Entries.{place-entry}
use Rattle.kc_snapshot.specs.Told.{SlotRest}
use Rattle.kc_snapshot.specs.Unlawful.{slot_rest_at}
use Rattle.kc_snapshot.specs.Making.{IsPlaceTold, IsVmTold, AreVmsTold}

-- there is a table with what a sound dump shows of a slot
pub mappings : (d : Dumped) (v : ℕ) → IsDump d → IsSound d → v < length d.slots → AreMappings (roots_of d.version) d.leaves (slot_dump_at d v).leaves (slot_dump_at d v).entries
mappings d v range sound low =
    let slot = sound.each_slot v low in
    let es = (slot_dump_at d v).entries in
    record {
      few = slot.few_leaves;
      low = λ k e lt. (let same = get_or_default (slot_dump_at d v).leaves k e 0 lt in let root = range.roots v k low lt in omega (arith, same, root));
      once = slot.leaves_once;
      rooted = λ n lt. slot.rooted (get_or es n (0, 0)).0 (get_or es n (0, 0)).1 (place-entry es n (0, 0) lt);
      rising = λ n lt. range.rising v n low lt;
    }

pub longer : {X : Type 0} (old new : List X) (x : X) (n : ℕ) → length old ≡ n → new ≡ old ++ x ∷ [] → length new ≡ n + 1
longer old new x n count pushed = ap length pushed ∙ length-append old (x ∷ []) ∙ ap (λ k. k + 1) count

-- one more slot
pub vms-more : (d : Dumped) (rests : List SlotRest) (n : ℕ) (old new : List (Option VmSlot)) (vm : VmSlot) → length old ≡ n → AreVmsTold d rests old n → new ≡ old ++ Some vm ∷ [] → IsVmTold (capacity_for d.version d.leaves) (slot_dump_at d n) (slot_rest_at rests n) vm → AreVmsTold d rests new (n + 1)
vms-more d rests n old new vm count each pushed is v low = subst (λ (vms : List (Option VmSlot)). IsPlaceTold (capacity_for d.version d.leaves) (slot_dump_at d v) (slot_rest_at rests v) (get_or vms v None)) (sym pushed) (elim (cases_lt v n) [
  | inl less ↦ rw (get_or_append_left old (Some vm ∷ []) None v (rw count less)) (each v less)
  | inr more ↦
      let same : v ≡ n = omega (arith, low, more) in
      let last : get_or (old ++ Some vm ∷ []) v None ≡ Some vm = ap (λ k. get_or (old ++ Some vm ∷ []) k None) (same ∙ sym count) ∙ get_or-append_seam old (Some vm) [] None in
      rw (last, same) is
])

-- the first of what is left, and the rest
pub first-left : {X : Type 0} (xs : List X) (i : ℕ) (x d : X) (rest : List X) → drop i xs ≡ x ∷ rest → x ≡ get_or xs i d
first-left [] zero x d rest e = cc
first-left [] (suc i) x d rest e = cc
first-left (y ∷ ys) zero x d rest e = sym (ap (λ l. get_or l 0 d) e)
first-left (y ∷ ys) (suc i) x d rest e = first-left ys i x d rest e

pub rest-left : {X : Type 0} (xs : List X) (i : ℕ) (x : X) (rest : List X) → drop i xs ≡ x ∷ rest → rest ≡ drop (suc i) xs
rest-left [] zero x rest e = cc
rest-left [] (suc i) x rest e = cc
rest-left (y ∷ ys) zero x rest e = sym (ap (drop 1) e)
rest-left (y ∷ ys) (suc i) x rest e = rest-left ys i x rest e

-- one more, by its number
pub more-told : {X : Type 0} (f : ℕ → X) (n : ℕ) (old new : List X) (x : X) → old ≡ map f (range_with_len 0 n) → new ≡ old ++ x ∷ [] → x ≡ f n → new ≡ map f (range_with_len 0 (n + 1))
more-told f n old new x so_far pushed made =
    pushed ∙ ap (λ l. l ++ x ∷ []) so_far ∙ ap (λ y. map f (range_with_len 0 n) ++ y ∷ []) made ∙ sym (map-range_with_len_more f 0 n n (omega arith))
