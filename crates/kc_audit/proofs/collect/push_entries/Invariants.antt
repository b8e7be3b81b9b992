use Rattle.std.proofs.Common.{ℕ, ◌≡◌, ◌++◌, drop, not}
use Rattle.kc_audit.specs.declared.finding.Finding.TheVariants as finding
use Rattle.kc_audit.specs.Findings.{named_where, entries_named, says}
use Rattle.kc_audit.proofs.collect.push_entries.Given as goal

-- what was found, and what is still to be found
abbrev pub invariant-loop-i : goal.invariant-loop-i
invariant-loop-i l = l.found.items ++ named_where (λ (e : ℕ × ℕ). not (says l.lines l.vm e.0 e.1)) (λ i e. finding.Entry l.vm e.0) l.i (drop l.i l.entries) ≡ l.initial.found.items ++ entries_named l.lines l.vm l.entries
