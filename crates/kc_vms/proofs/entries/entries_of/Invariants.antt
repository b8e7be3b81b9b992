use Rattle.std.proofs.Common.{◌≡◌, ◌*◌}
use Rattle.kc_vms.specs.TwoLevels.{entries_below}
use Rattle.kc_vms.proofs.entries.entries_of.Given as goal

-- the entries of all root slots so far
abbrev pub invariant-loop-slot : goal.invariant-loop-slot
invariant-loop-slot l = l.entries.items ≡ entries_below l.levels (l.slot * 512)
