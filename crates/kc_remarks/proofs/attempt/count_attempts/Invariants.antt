use Rattle.std.proofs.Common.{◌≡◌, ◌≤◌, take}
use Rattle.kc_remarks.specs.Attempts.{count_attempts}
use Rattle.kc_remarks.proofs.attempt.count_attempts.Given as goal

-- how many there are so far
abbrev pub invariant-loop-attempt : goal.invariant-loop-attempt
invariant-loop-attempt l = record { counted : l.count ≡ count_attempts (take l.attempt-index l.attempts) l.reason; few : l.count ≤ l.attempt-index }
