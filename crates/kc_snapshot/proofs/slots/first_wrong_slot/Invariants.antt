use Rattle.kc_snapshot.specs.Unlawful.{AreSlotsOf}
use Rattle.kc_snapshot.proofs.slots.first_wrong_slot.Given as goal

abbrev pub invariant-loop-vm : goal.invariant-loop-vm
invariant-loop-vm l = AreSlotsOf l.dump l.rests l.vm
