use Rattle.std.proofs.Common.{◌≡◌, ◌++◌, drop}
use Rattle.kc_audit.specs.Findings.{leaves_named}
use Rattle.kc_audit.proofs.collect.push_leaves.Given as goal

-- what was found, and what is still to be found
abbrev pub invariant-loop-i : goal.invariant-loop-i
invariant-loop-i l = l.found.items ++ leaves_named l.limit l.i (drop l.i l.slots) ≡ l.initial.found.items ++ leaves_named l.limit 0 l.slots
