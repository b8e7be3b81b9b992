-- Why a call on a slot is refused, in the order of the conditions, whatever the rest of the core is.
use Rattle.std.specs.Prelude.{ℕ, not, nat_le, [], ◌∷◌, length, Option}
use Rattle.std.specs.List.{list_any}
use Rattle.kc_types.specs.declared.refusal.Refusal.{Refusal}
use Rattle.kc_types.specs.declared.refusal.Refusal.TheVariants.{SlotUsed, NoVm, WrongPhase, VcpuUsed, ImagesFull, Overlap, NoImage, ImageFull}
use Rattle.kc_model.specs.Refusals.{when, first_of_these, is_empty, is_booting, overlaps, is_short}
use Rattle.kc_model.specs.Linked.{LinkedSlot}
use Rattle.kc_model.specs.Slot.{vcpu_of, image_of}

abbrev pub no_vm_in : LinkedSlot → Option Refusal
no_vm_in slot = when (is_empty slot.phase) NoVm

abbrev pub not_booting_in : LinkedSlot → Option Refusal
not_booting_in slot = when (not (is_booting slot.phase)) WrongPhase

abbrev pub register_refusal : LinkedSlot → Option Refusal
register_refusal slot = when (not (is_empty slot.phase)) SlotUsed

abbrev pub add_vcpu_refusal : LinkedSlot → ℕ → Option Refusal
add_vcpu_refusal slot c = first_of_these (no_vm_in slot ∷ not_booting_in slot ∷ when (vcpu_of slot c).registered VcpuUsed ∷ [])

-- if a slot may have `most` images
abbrev pub add_image_refusal : ℕ → LinkedSlot → ℕ → ℕ → Option Refusal
add_image_refusal most slot base len = first_of_these (no_vm_in slot ∷ not_booting_in slot
    ∷ when (nat_le most (length slot.images)) ImagesFull
    ∷ when (list_any (overlaps base len) slot.images) Overlap ∷ [])

abbrev pub next_page_refusal : LinkedSlot → ℕ → Option Refusal
next_page_refusal slot i = first_of_these (no_vm_in slot ∷ not_booting_in slot
    ∷ when (nat_le (length slot.images) i) NoImage
    ∷ when (not (is_short (image_of slot i))) ImageFull ∷ [])
