-- A state made of two is orderly if both are, and a call needs the same in it.
use Rattle.std.proofs.Common.{ℕ, zero, suc, ◌≡◌, ◌<◌, ◌⊎◌, inl, inr, Bool, true, false, ◌&&◌, ◌||◌, cond, Option, Some, None, nat_lt, List, [], ◌∷◌, length, get_or, drop, refl, sym, ap, subst, ◌∙◌, arith}
use Rattle.std.specs.Ordering.{nat_cmp}
use Rattle.std.specs.FinMap as map
use Rattle.kc_types.specs.declared.call.Call.{Call}
use Rattle.kc_types.specs.declared.owner.Owner.TheVariants.{Core}
use Rattle.kc_model.specs.State.{State, Slot, slot_at, no_slot, untouched}
use Rattle.kc_model.specs.Resources.{Resources, Resource, pick, merged, is_in, names_frame, uses_free, of_slot, exists_slot, listed_in, need, IsWithin}
use Rattle.kc_model.specs.Local.{IsOrderly, IsOrderlySlot, cut}
use Rattle.kc_model.proofs.Local.Merges.{slot-merged, free-merged}
use Rattle.kc_model.proofs.States.Members.{same_number}
use Rattle.kc_types.specs.Configuration.{slot_count}
use Rattle.kc_types.specs.declared.resource.Resource.TheVariants as resource
use Rattle.kc_types.specs.Slots.{slot_of}

length-pick : {X : Type 0} (test : ℕ → Bool) (d : X) (xs ys : List X) → length (pick test d xs ys) ≡ length xs
length-pick test d [] ys = refl
length-pick test d (x ∷ xs) ys = let rest = length-pick (λ i. test (suc i)) d xs (drop 1 ys) in omega (arith, rest)

either_of : {X : Type 0} (b : Bool) (x y : X) → (cond b x y ≡ x) ⊎ (cond b x y ≡ y)
either_of true x y = inl refl
either_of false x y = inr refl

-- each element of a list made of two is from one of them
pick-or : {X : Type 0} (test : ℕ → Bool) (d : X) (xs ys : List X) (i : ℕ) → i < length xs → (get_or (pick test d xs ys) i d ≡ get_or xs i d) ⊎ (get_or (pick test d xs ys) i d ≡ get_or ys i d)
pick-or test d [] ys i lt = absurd (omega arith)
pick-or test d (x ∷ xs) ys zero lt = either_of (test 0) x (get_or ys 0 d)
pick-or test d (x ∷ xs) [] (suc i) lt = pick-or (λ j. test (suc j)) d xs [] i (omega arith)
pick-or test d (x ∷ xs) (y ∷ ys) (suc i) lt = pick-or (λ j. test (suc j)) d xs ys i (omega arith)

pub orderly-merged : (here : Resources) (m rest : State) → IsOrderly m → ((v : ℕ) → v < slot_count m.config → IsOrderlySlot (slot_at rest v)) → IsOrderly (merged here m rest)
orderly-merged here m rest is others = record {
  frames = length-pick (λ f. here (resource.Frame f)) (untouched Core) m.frames rest.frames ∙ is.frames;
  slots = length-pick (λ v. here (resource.Vm v)) no_slot m.slots rest.slots ∙ is.slots;
  each_slot = λ v low. elim (pick-or (λ v. here (resource.Vm v)) no_slot m.slots rest.slots v (rw is.slots low)) [
    | inl one ↦ subst IsOrderlySlot (sym one) (is.each_slot v low)
    | inr other ↦ subst IsOrderlySlot (sym other) (others v low)
  ];
}

orderly-empty : IsOrderlySlot no_slot
orderly-empty = record { listed = λ g f e. let none = map.get-empty {X = ℕ} nat_cmp g in cc; images = λ booting. cc; next_page = λ booting. cc }

-- a part of an orderly state is orderly
pub orderly-cut : (m : State) (here : Resources) → IsOrderly m → IsOrderly (cut m here)
orderly-cut m here is = orderly-merged here m (record { config = m.config; frames = []; free = []; slots = [] }) is (λ v low. orderly-empty)

of_slot-merged : (here : Resources) (m rest : State) (named : Option ℕ) (f : ℕ) → ((v : ℕ) → exists_slot m.config named v ≡ true → here (resource.Vm v) ≡ true) → of_slot m.config (listed_in (merged here m rest)) named f ≡ of_slot m.config (listed_in m) named f
of_slot-merged here m rest None f has = refl
of_slot-merged here m rest (Some v) f has = by_low (nat_lt v (slot_count m.config)) refl
  where
    by_low : (low : Bool) → nat_lt v (slot_count m.config) ≡ low → (low && is_in (slot_at (merged here m rest) v).frames f) ≡ (low && is_in (slot_at m v).frames f)
    by_low true is = ap (λ (there : Slot). is_in there.frames f) (slot-merged here m rest v (λ lt. has v (rw (is, same_number v) refl)))
    by_low false is = refl

free_if : (here : Resources) (m rest : State) (uses : Bool) (f : ℕ) → (uses ≡ true → here resource.Free ≡ true) → (uses && is_in (merged here m rest).free f) ≡ (uses && is_in m.free f)
free_if here m rest true f has = ap (λ (free : List ℕ). is_in free f) (free-merged here m rest (has refl))
free_if here m rest false f has = refl

-- a call needs the same
pub need-merged : (here : Resources) (m rest : State) (call : Call) → IsWithin (need m call) here → (r : Resource) → need (merged here m rest) call r ≡ need m call r
need-merged here m rest call within (resource.Frame f) =
    ap (λ b. (names_frame call f && nat_lt f m.config.frames) || b || (uses_free call && is_in (merged here m rest).free f)) (of_slot-merged here m rest (slot_of call) f (λ v. within (resource.Vm v)))
    ∙ ap (λ b. (names_frame call f && nat_lt f m.config.frames) || of_slot m.config (listed_in m) (slot_of call) f || b) (free_if here m rest (uses_free call) f (within resource.Free))
need-merged here m rest call within (resource.Vm v) = refl
need-merged here m rest call within resource.Free = refl
