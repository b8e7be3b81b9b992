use Rattle.std.proofs.Common.{take}
use Rattle.kc_live.specs.Plans.{AreActors}
use Rattle.kc_live.specs.Cuts.{callers}
use Rattle.kc_live.proofs.cut.first_unknown.Given as goal

abbrev pub invariant-loop-at : goal.invariant-loop-at
invariant-loop-at l = AreActors l.config (callers (take l.at l.calls))
