use Rattle.std.proofs.Common.{◌≡◌, take}
use Rattle.kc_remarks.specs.Attempts.{attempts_in_life}
use Rattle.kc_remarks.proofs.attempt.attempts_in_life.Given as goal

-- those of the life so far
abbrev pub invariant-loop-attempt : goal.invariant-loop-attempt
invariant-loop-attempt l = l.own.items ≡ attempts_in_life l.life (take l.attempt-index l.attempts)
