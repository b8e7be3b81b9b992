use Rattle.kc_footprints.specs.Planner.{IsRelated}
use Rattle.kc_footprints.proofs.reaches.Reaches.relate.Given as goal

abbrev pub invariant-loop-other : goal.invariant-loop-other
invariant-loop-other l =
    IsRelated l.other l.principal l.frame l.fn.self (record { sets = l.self-inside.sets; near = l.self-inside.near; freed = l.self-inside.freed.items })
