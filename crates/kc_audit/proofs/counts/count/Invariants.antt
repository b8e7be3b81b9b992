use Rattle.std.proofs.Common.{◌+◌}
use Rattle.kc_types.specs.Limits.{slot_limit}
use Rattle.kc_audit.specs.Counts.{AreOwnerCounts}
use Rattle.kc_audit.proofs.counts.count.Given as goal

abbrev pub invariant-loop-i : goal.invariant-loop-i
invariant-loop-i l = AreOwnerCounts l.lines l.i (slot_limit + 1) l.counts
