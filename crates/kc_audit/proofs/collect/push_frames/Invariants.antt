use Rattle.std.proofs.Common.{◌≡◌, ◌++◌, drop}
use Rattle.kc_audit.specs.Findings.{frames_named}
use Rattle.kc_audit.proofs.collect.push_frames.Given as goal

-- what was found, and what is still to be found
abbrev pub invariant-loop-i : goal.invariant-loop-i
invariant-loop-i l = l.found.items ++ frames_named l.kind l.i (drop l.i l.verdicts) ≡ l.initial.found.items ++ frames_named l.kind 0 l.verdicts
