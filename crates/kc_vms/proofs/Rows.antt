-- Why `remap` is refused, with what the slot itself refuses taken together.
use Rattle.std.proofs.Common.{ℕ, ◌≡◌, nat_le, not, [], ◌∷◌, length, Option, None, Some, refl, ap}
use Rattle.kc_types.specs.declared.call.Call.TheVariants.{Remap}
use Rattle.kc_types.specs.declared.refusal.Refusal.TheVariants.{NoImage, ImageFull}
use Rattle.kc_types.specs.declared.refusal.Refusal.{Refusal}
use Rattle.kc_model.specs.State.{State, slot_at}
use Rattle.kc_model.specs.Refusals.{refusal, when, or_else, first_of_these, bad_vm, bad_frame, not_host, tables_full, next_gfn, is_short}
use Rattle.kc_model.specs.Linked.{LinkedSlot, linked_slot}
use Rattle.kc_model.specs.Slot as slots
use Rattle.kc_vms.specs.Refusals.{no_vm_in, not_booting_in, next_page_refusal}

-- the conditions of the next page, and what comes after them
or_else-next_page : (a b c d rest : Option Refusal) → or_else a (or_else b (or_else c (or_else d rest))) ≡ or_else (first_of_these (a ∷ b ∷ c ∷ d ∷ [])) rest
or_else-next_page (Some r) b c d rest = refl
or_else-next_page None (Some r) c d rest = refl
or_else-next_page None None (Some r) d rest = refl
or_else-next_page None None None (Some r) rest = refl
or_else-next_page None None None None rest = refl

pub refusal-remap : (m : State) (v i f : ℕ) → refusal m (Remap v i f) ≡ or_else (bad_vm m v) (or_else (bad_frame m f)
    (or_else (next_page_refusal (linked_slot (slot_at m v)) i) (first_of_these (not_host m f ∷ tables_full m v (next_gfn m v i) ∷ []))))
refusal-remap m v i f = ap (λ later. or_else (bad_vm m v) (or_else (bad_frame m f) later)) (or_else-next_page (no_vm_in slot) (not_booting_in slot)
    (when (nat_le (length slot.images) i) NoImage) (when (not (is_short (slots.image_of slot i))) ImageFull) (first_of_these (not_host m f ∷ tables_full m v (next_gfn m v i) ∷ [])))
  where
    slot : LinkedSlot
    slot = linked_slot (slot_at m v)
