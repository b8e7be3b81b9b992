use Rattle.std.proofs.Common.{◌≡◌, drop}
use Rattle.kc_live.specs.Plans.{stranger_from}
use Rattle.kc_live.proofs.early.first_stranger.Given as goal

abbrev pub invariant-loop-i : goal.invariant-loop-i
invariant-loop-i l = stranger_from 0 l.programs ≡ stranger_from l.i (drop l.i l.programs)
