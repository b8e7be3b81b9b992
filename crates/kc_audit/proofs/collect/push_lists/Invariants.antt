use Rattle.std.proofs.Common.{◌≡◌, ◌++◌, drop}
use Rattle.kc_audit.specs.Findings.{lists_named}
use Rattle.kc_audit.proofs.collect.push_lists.Given as goal

-- what was found, and what is still to be found
abbrev pub invariant-loop-i : goal.invariant-loop-i
invariant-loop-i l = l.found.items ++ lists_named l.i (drop l.i l.lists) ≡ l.initial.found.items ++ lists_named 0 l.lists
