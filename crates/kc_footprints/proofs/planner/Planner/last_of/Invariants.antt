use Rattle.kc_footprints.specs.Planner.{IsLastOf}
use Rattle.kc_footprints.proofs.planner.Planner.last_of.Given as goal

abbrev pub invariant-loop-principal : goal.invariant-loop-principal
invariant-loop-principal l = IsLastOf l.principal l.frame l.reaches l.self l.highest
