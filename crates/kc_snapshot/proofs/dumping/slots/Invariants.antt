use Rattle.std.proofs.Common.{◌≡◌}
use Rattle.kc_snapshot.specs.Dumping.{slot_dumps}
use Rattle.kc_snapshot.proofs.dumping.slots.Given as goal

abbrev pub invariant-loop-vm : goal.invariant-loop-vm
invariant-loop-vm l = l.slots.items ≡ slot_dumps l.core.state l.vm
