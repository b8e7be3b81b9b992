use Rattle.std.proofs.Common.{refl}
use Rattle.kc_parts.proofs.SlotChanges.{linked-vm}
use Rattle.kc_core.proofs.Frames.{places-vm}
use Rattle.kc_core.proofs.Guests.{state-faulted}
use Rattle.kc_core.proofs.guest.spend_fault.Goals as goal

pub returns-clause-state : goal.returns-clause-state
returns-clause-state c = state-faulted c.args.config.now c.args.parts.now _ _ _ _ _ c.requires.exists c.slot_mut.ensures.value c.spend_fault.ensures

pub returns-clause-linked : goal.returns-clause-linked
returns-clause-linked c = linked-vm _ _ _ _ _ c.requires.linked c.slot_mut.ensures.value (rw c.spend_fault.ensures refl) (rw c.spend_fault.ensures refl)

pub returns-clause-places : goal.returns-clause-places
returns-clause-places c = places-vm c.args.parts.now _ _ _ c.slot_mut.ensures.value
