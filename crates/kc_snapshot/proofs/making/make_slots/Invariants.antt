use Rattle.std.proofs.Common.{◌≡◌, length}
use Rattle.kc_snapshot.specs.Making.{AreVmsTold}
use Rattle.kc_snapshot.proofs.making.make_slots.Given as goal

abbrev pub invariant-loop-vm : goal.invariant-loop-vm
invariant-loop-vm l = record {
  count : length l.vms.items ≡ l.vm;
  each : AreVmsTold l.dump l.rests l.vms.items l.vm;
}
