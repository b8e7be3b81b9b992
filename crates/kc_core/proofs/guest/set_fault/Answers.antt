use Rattle.std.proofs.Common.{get_or, refl, sym, ap, ◌∙◌}
use Rattle.kc_model.specs.State.{Slot, absent_vcpu}
use Rattle.kc_parts.proofs.SlotChanges.{linked-vm}
use Rattle.kc_parts.proofs.Looked.{slot-is}
use Rattle.kc_core.proofs.Frames.{places-vm}
use Rattle.kc_core.proofs.Guests.{state-faulted}
use Rattle.kc_core.proofs.guest.set_fault.Goals as goal

pub set_fault-requires-clause-active : goal.set_fault-requires-clause-active
set_fault-requires-clause-active c =
    sym (ap (λ (slot : Slot). slot.phase) (slot-is c.args.config.now c.args.parts.now _ _ c.requires.exists c.slot_mut.ensures.value)) ∙ c.requires.active

pub set_fault-requires-clause-registered : goal.set_fault-requires-clause-registered
set_fault-requires-clause-registered c =
    sym (ap (λ (slot : Slot). (get_or slot.vcpus c.args.at.vcpu absent_vcpu).registered) (slot-is c.args.config.now c.args.parts.now _ _ c.requires.exists c.slot_mut.ensures.value)) ∙ c.requires.registered

pub returns-clause-state : goal.returns-clause-state
returns-clause-state c = state-faulted c.args.config.now c.args.parts.now _ _ _ _ _ c.requires.exists c.slot_mut.ensures.value c.set_fault.ensures

pub returns-clause-linked : goal.returns-clause-linked
returns-clause-linked c = linked-vm _ _ _ _ _ c.requires.linked c.slot_mut.ensures.value (rw c.set_fault.ensures refl) (rw c.set_fault.ensures refl)

pub returns-clause-places : goal.returns-clause-places
returns-clause-places c = places-vm c.args.parts.now _ _ _ c.slot_mut.ensures.value
