-- Slots move from places to other places.
use Rattle.std.proofs.Common.{ℕ, ◌≡◌, ◌<◌, ◌≤◌, Bool, true, false, cond, length, get_or, take, refl, sym, ◌∙◌, ap}
use Rattle.std.specs.Prelude.{Option, Some, None}
use Rattle.std.proofs.lemmas.List.{take_all}
use Rattle.kc_vms.specs.Vm.{VmSlot}
use Rattle.kc_parts.specs.Parts.{HeldSlots, is_among, held_slot}
use Rattle.kc_parts.specs.Cuts.{either}
use Rattle.kc_parts.specs.Moves.{IsEmptySlot, AreMoved}
use Rattle.kc_parts.proofs.Named.{among-at}
use Rattle.kc_parts.proofs.Cells.{place-among, cell-among}

pub either-none : {X : Type 0} → (o : Option X) → either o None ≡ o
either-none None = refl
either-none (Some x) = refl

-- the next slot, if it is there, comes into an empty place
pub next-fits : (i n : ℕ) (from to left joined : HeldSlots) (vm : VmSlot) → ((v : ℕ) → held_slot to v ≡ None) → i < length to.numbers → n ≡ get_or to.numbers i n
    → AreMoved (take i to.numbers) from to left joined → held_slot left n ≡ Some vm → IsEmptySlot joined n
next-fits i n from to left joined vm nothing low is was here =
    (rw was.joined_places (place-among to.numbers n (ap (is_among to.numbers) is ∙ among-at to.numbers i n low)), was.joined_is n ∙ rw (nothing n) (by_moved (is_among (take i to.numbers) n) (held_slot from n) (sym (was.left_is n) ∙ here)))
  where
    by_moved : (b : Bool) (o : Option VmSlot) → cond b None o ≡ Some vm → cond b o None ≡ None
    by_moved true o e = cc
    by_moved false o e = refl

-- everything that was there has moved
pub all-moved : (n : ℕ) (from to left joined : HeldSlots) → length from.numbers ≤ n → AreMoved (take n from.numbers) from to left joined → (v : ℕ) → held_slot joined v ≡ either (held_slot to v) (held_slot from v)
all-moved n from to left joined all moved v =
    moved.joined_is v ∙ ap (λ ns. either (held_slot to v) (cond (is_among ns v) (held_slot from v) None)) (take_all n from.numbers all) ∙ ap (either (held_slot to v)) (cell-among from.numbers from.slots v)
