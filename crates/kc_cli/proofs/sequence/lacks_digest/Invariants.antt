use Rattle.std.proofs.Common.{◌≡◌, length}
use Rattle.kc_cli.specs.Custody.{lacks_digest}
use Rattle.kc_cli.proofs.sequence.lacks_digest.Given as goal

-- no volume so far lacks bytes
abbrev pub invariant-loop-rest : goal.invariant-loop-rest
invariant-loop-rest l = lacks_digest l.rest ≡ lacks_digest l.entries

abbrev pub decreases-loop-rest : goal.decreases-loop-rest
decreases-loop-rest l = length l.rest
