use Rattle.std.proofs.Common.{◌≡◌, take}
use Rattle.std.specs.FinMap as finite
use Rattle.kc_vms.proofs.table.Stage2.map_all.Given as goal

abbrev pub invariant-loop-entry : goal.invariant-loop-entry
invariant-loop-entry l = record {
  entries : finite.entries l.self.mapped ≡ take l.entry-index l.entries;
  leaves : l.self.leaves ≡ l.initial.self.leaves;
  roots : l.self.roots ≡ l.initial.self.roots;
  capacity : l.self.capacity ≡ l.initial.self.capacity;
}
