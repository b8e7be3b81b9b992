use Rattle.std.proofs.Common.{◌≡◌, ◌+◌, ◌*◌}
use Rattle.kc_vms.specs.TwoLevels.{entries_below}
use Rattle.kc_vms.proofs.entries.push_leaf.Given as goal

-- the entries of all guest frames so far
abbrev pub invariant-loop-at : goal.invariant-loop-at
invariant-loop-at l = l.entries.items ≡ entries_below l.levels (l.slot * 512 + l.at)
