use Rattle.std.proofs.Common.{◌≡◌, drop}
use Rattle.kc_audit.specs.Findings.{has_double}
use Rattle.kc_audit.proofs.leaves.has_double.Given as goal

abbrev pub invariant-loop-i : goal.invariant-loop-i
invariant-loop-i l = has_double l.leaves ≡ has_double (drop l.i l.leaves)
