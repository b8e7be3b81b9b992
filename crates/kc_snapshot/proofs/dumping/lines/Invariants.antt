use Rattle.std.proofs.Common.{◌≡◌}
use Rattle.kc_snapshot.specs.Dumping.{frame_lines}
use Rattle.kc_snapshot.specs.Form.{in_form}
use Rattle.kc_snapshot.proofs.dumping.lines.Given as goal

abbrev pub invariant-loop-number : goal.invariant-loop-number
invariant-loop-number l = l.lines.items ≡ frame_lines (in_form l.digests.form l.core.state) l.number
