use Rattle.std.proofs.Common.{◌≡◌, drop}
use Rattle.kc_audit.specs.Findings.{all_rooted}
use Rattle.kc_audit.proofs.leaves.all_rooted.Given as goal

abbrev pub invariant-loop-i : goal.invariant-loop-i
invariant-loop-i l = all_rooted l.leaves l.entries ≡ all_rooted l.leaves (drop l.i l.entries)
