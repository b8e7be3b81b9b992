use Rattle.std.proofs.Common.{take}
use Rattle.kc_live.specs.Plans.{HaveActors}
use Rattle.kc_live.proofs.early.first_bad.Given as goal

abbrev pub invariant-loop-i : goal.invariant-loop-i
invariant-loop-i l = HaveActors l.config (take l.i l.programs)
