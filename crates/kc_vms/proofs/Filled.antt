-- A table is filled: its leaves are taken, and then its entries are mapped.
use Rattle.std.proofs.Common.{ℕ, zero, suc, ◌≡◌, ◌<◌, ◌≤◌, ◌+◌, ◌/◌, inl, inr, true, false, nat_eq, All, List, [], ◌∷◌, ◌++◌, length, get_or, take, Option, Some, None, Result, Ok, Err, refl, sym, ap, subst, ◌∙◌, arith, eq-eqb}
use Rattle.std.proofs.lemmas.Bool.{ne_eqb, eqb-true, or_cases}
use Rattle.std.proofs.lemmas.List.{take_more}
use Rattle.std.specs.FinMap as finite
use Rattle.std.specs.Result.{IsOk}
use Rattle.kc_types.specs.Refusals.{Answers}
use Rattle.kc_model.specs.Lawful.{times_in}
use Rattle.kc_vms.specs.declared.levels.Levels.{Levels}
use Rattle.kc_vms.specs.Stage2.{Table, AreMappings, has_slot, has_leaf_of, with_mapping}
use Rattle.kc_vms.specs.Faults.{map_fault}
use Rattle.kc_vms.specs.TwoLevels.{table_of, Led}
use Rattle.kc_vms.proofs.Tables.{mapped-unchanged}
use Rattle.kc_vms.proofs.Rising.{AreLow, before-low, find-low, insert-last}

-- a leaf is taken, and nothing else changes
pub leaf-taken : (old new : Levels) (root : ℕ) (leaf : Option ℕ) → has_slot (table_of old).leaves root ≡ false → length (table_of old).leaves < (table_of old).capacity → Led old new root leaf
    → table_of new ≡ record (table_of old) { leaves = (table_of old).leaves ++ root ∷ [] }
leaf-taken old new root None none room led = absurd (let full = led.2 in omega (arith, room, full))
leaf-taken old new root (Some leaf) none room led =
    let leaves : new.leaves.items ≡ old.leaves.items ++ root ∷ [] = rw none at led.2 in
    λ i. record { mapped = mapped-unchanged new.root.items old.root.items new.pool old.pool led.1 i; leaves = leaves i; roots = led.3 i; capacity = led.4 i }

first-times : (root : ℕ) (roots : List ℕ) → times_in (root ∷ roots) root ≡ 1 + times_in roots root
first-times root roots = rw (eq-eqb root root refl) refl

rest-times : (root : ℕ) (roots : List ℕ) (r : ℕ) → times_in roots r ≤ times_in (root ∷ roots) r
rest-times root roots r = omega arith

in-times : (roots : List ℕ) (i d : ℕ) → i < length roots → 0 < times_in roots (get_or roots i d)
in-times [] i d low = absurd (omega (arith, low))
in-times (root ∷ roots) zero d low = let first = first-times root roots in omega (arith, first)
in-times (root ∷ roots) (suc i) d low = let here = in-times roots i d (omega (arith, low)) in let rest = rest-times root roots (get_or roots i d) in omega (arith, here, rest)

-- a root slot that is in a list once is not in it before its place
pub root-fresh : (roots : List ℕ) (i d : ℕ) → i < length roots → ((root : ℕ) → times_in roots root ≤ 1) → has_slot (take i roots) (get_or roots i d) ≡ false
root-fresh [] i d low once = absurd (omega (arith, low))
root-fresh (root ∷ roots) zero d low once = refl
root-fresh (root ∷ roots) (suc i) d low once =
    let other : root ≡ get_or roots i d → ⊥ = λ same. (
    let twice = once root in
    let here = in-times roots i d (omega (arith, low)) in
    let there : 0 < times_in roots root = subst (λ r. 0 < times_in roots r) (sym same) here in
    let first = first-times root roots in
    omega (arith, twice, there, first)) in
    rw (ne_eqb root (get_or roots i d) other) (root-fresh roots i d (omega (arith, low)) (λ r. let all = once r in let rest = rest-times root roots r in omega (arith, all, rest)))

-- a root slot that has a leaf is one of the list
has_slot-low : (roots : List ℕ) (s count : ℕ) → has_slot roots s ≡ true → All (λ root. root < count) roots → s < count
has_slot-low [] s count has low = cc
has_slot-low (root ∷ roots) s count has low = elim (or_cases (nat_eq root s) (has_slot roots s) has) [
  | inl here ↦ let same : root ≡ s = eqb-true root s here in let first : root < count = low 0 0 (omega arith) in omega (arith, same, first)
  | inr later ↦ has_slot-low roots s count later (λ k d lt. low (suc k) d (omega (arith, lt)))
]

-- the entries of a table so far, and the one that comes next
module _ (count capacity : ℕ) (roots : List ℕ) (es : List (ℕ × ℕ)) (are : AreMappings count capacity roots es) (t : Table) (i : ℕ) (low : i < length es) (so_far : finite.entries t.mapped ≡ take i es) (leaves : t.leaves ≡ roots) where
  entry_next : ℕ × ℕ
  entry_next = get_or es i (0, 0)

  is-low : AreLow entry_next.0 (finite.entries t.mapped)
  unfolding entry_next
  is-low = subst (AreLow (get_or es i (0, 0)).0) (sym so_far) (before-low es i are.rising low)

  rooted : has_leaf_of t.leaves entry_next.0 ≡ true
  unfolding entry_next
  rooted = rw leaves (are.rooted i low)

  pub next-root : (g : ℕ) → g ≡ (get_or es i (0, 0)).0 → g / 512 < count
  next-root g is = rw is (has_slot-low roots ((get_or es i (0, 0)).0 / 512) count (are.rooted i low) are.low)

  pub next-served : (g : ℕ) → g ≡ (get_or es i (0, 0)).0 → map_fault t g ≡ None
  unfolding entry_next
  next-served g is =
      let none : finite.get t.mapped (get_or es i (0, 0)).0 ≡ None = finite.get-entries t.mapped (get_or es i (0, 0)).0 ∙ find-low (get_or es i (0, 0)).0 (finite.entries t.mapped) is-low in
      rw (is, none, rooted) refl

  pub next-entries : (g f : ℕ) → g ≡ (get_or es i (0, 0)).0 → f ≡ (get_or es i (0, 0)).1 → finite.entries (with_mapping t g f).mapped ≡ take (i + 1) es
  unfolding entry_next
  next-entries g f is at = rw (is, at) (insert-last t.mapped (get_or es i (0, 0)).0 (get_or es i (0, 0)).1 is-low ∙ ap (λ l. l ++ get_or es i (0, 0) ∷ []) so_far ∙ sym (take_more es i (0, 0) low))

  pub next-leaves : (g f : ℕ) → g ≡ (get_or es i (0, 0)).0 → (with_mapping t g f).leaves ≡ roots
  unfolding entry_next
  next-leaves g f is = rw (is, rooted) leaves

pub served-ok : {X E : Type 0} (r : Result X E) (fault : Option E) → Answers r fault → fault ≡ None → IsOk r
served-ok (Ok x) fault answers none = refl
served-ok (Err e) fault answers none = let no = sym none ∙ answers in cc
