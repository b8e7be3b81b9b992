-- Verifying a slot of parts.
use Rattle.std.proofs.Common.{ℕ, ◌≡◌, ◌<◌, Some, None, sym, ap, ◌∙◌}
use Rattle.kc_types.specs.Configuration.{Configuration, slot_count}
use Rattle.kc_types.specs.declared.call.Call.TheVariants.{Verify}
use Rattle.kc_types.specs.declared.slot.Phase.{Phase}
use Rattle.kc_types.specs.declared.slot.Phase.TheVariants.{Booting}
use Rattle.kc_model.specs.State.{Slot, with_slot}
use Rattle.kc_model.specs.Refusals.{refusal}
use Rattle.kc_model.specs.Effects.{with_phase}
use Rattle.kc_model.proofs.Lawful.Verifies.{verify-served}
use Rattle.kc_model.specs.Slot as slots
use Rattle.kc_vms.specs.Vm.{VmSlot}
use Rattle.kc_parts.specs.Parts.{Held, vm_at, with_vm}
use Rattle.kc_parts.specs.States.{state_of, IsLinked}
use Rattle.kc_parts.proofs.SlotChanges.{state-vm, linked-vm}
use Rattle.kc_parts.proofs.Looked.{slot-is}

-- a slot that is here is booting if the state says so
pub booting-here : (config : Configuration) (h : Held) (v : ℕ) (vm : VmSlot) → refusal (state_of config h) (Verify v) ≡ None → vm_at h v ≡ Some vm → vm.slot.phase ≡ Booting
booting-here config h v vm served at =
    let seen = verify-served (state_of config h) v served in
    sym (ap (λ (slot : Slot). slot.phase) (slot-is config h v vm seen.0 at)) ∙ seen.1

-- a slot that goes to another phase
pub state-phase : (config : Configuration) (h : Held) (v : ℕ) (vm new : VmSlot) (phase : Phase) → v < slot_count config → vm_at h v ≡ Some vm → new ≡ record vm { slot = slots.in_phase vm.slot phase }
    → state_of config (with_vm h v new) ≡ with_phase (state_of config h) v phase
state-phase config h v vm new phase low at is =
    ap (λ n. state_of config (with_vm h v n)) is
    ∙ state-vm config h v vm (record vm { slot = slots.in_phase vm.slot phase }) at
    ∙ ap (λ (slot : Slot). with_slot (state_of config h) v (record slot { phase = phase })) (sym (slot-is config h v vm low at))

pub linked-phase : (config : Configuration) (h : Held) (v : ℕ) (vm new : VmSlot) (phase : Phase) → IsLinked config h → vm_at h v ≡ Some vm → new ≡ record vm { slot = slots.in_phase vm.slot phase } → IsLinked config (with_vm h v new)
linked-phase config h v vm new phase linked at is = linked-vm config h v vm new linked at (ap (λ (n : VmSlot). n.slot.frames) is) (ap (λ (n : VmSlot). n.capacity) is)
