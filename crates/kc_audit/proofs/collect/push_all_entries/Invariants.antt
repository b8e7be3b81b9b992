use Rattle.std.proofs.Common.{◌≡◌, ◌++◌, drop}
use Rattle.kc_audit.specs.Findings.{all_entries_named}
use Rattle.kc_audit.proofs.collect.push_all_entries.Given as goal

-- what was found, and what is still to be found
abbrev pub invariant-loop-i : goal.invariant-loop-i
invariant-loop-i l = l.found.items ++ all_entries_named l.lines l.i (drop l.i l.slots) ≡ l.initial.found.items ++ all_entries_named l.lines 0 l.slots
