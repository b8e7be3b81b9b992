use Rattle.std.proofs.Common.{◌≡◌, ◌++◌, drop}
use Rattle.kc_audit.specs.Findings.{empty_named}
use Rattle.kc_audit.proofs.collect.push_empty.Given as goal

-- what was found, and what is still to be found
abbrev pub invariant-loop-i : goal.invariant-loop-i
invariant-loop-i l = l.found.items ++ empty_named l.i (drop l.i l.slots) ≡ l.initial.found.items ++ empty_named 0 l.slots
