use Rattle.std.proofs.Common.{◌-◌, None}
use Rattle.std.specs.Prelude.{◌↔◌}
use Rattle.kc_audit.specs.Walking.{Walks}
use Rattle.kc_audit.proofs.chain.walks.Given as goal

abbrev pub invariant-loop-step : goal.invariant-loop-step
invariant-loop-step l =
    Walks l.lines l.owner l.ends.tail None l.ends.head l.ends.count ↔ Walks l.lines l.owner l.ends.tail l.before l.at (l.ends.count - l._step)
