use Rattle.std.proofs.Common.{◌≡◌, length}
use Rattle.kc_audit.proofs.Marked.{MarkedTo}
use Rattle.kc_audit.proofs.marks.mark_slots.Given as goal

abbrev pub invariant-loop-i : goal.invariant-loop-i
invariant-loop-i l = record {
  count : length l.marks ≡ length l.initial.marks;
  marked : MarkedTo l.dump l.marks l.i;
}
