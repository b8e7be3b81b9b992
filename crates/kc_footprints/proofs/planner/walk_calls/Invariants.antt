use Rattle.std.proofs.Common.{◌≡◌, length}
use Rattle.kc_footprints.specs.Planner.{has_pair}
use Rattle.kc_footprints.specs.Spans.{AreFootprintsOf}
use Rattle.kc_footprints.proofs.Plans.{IsGoing}
use Rattle.kc_footprints.proofs.planner.walk_calls.Given as goal

abbrev pub invariant-loop-names : goal.invariant-loop-names
invariant-loop-names l = record { going : IsGoing l.frames l.free (has_pair l.pairs) l.calls l.waves.items l.reaches l.planner; len : length l.waves.items ≡ l.names-index; footprints : AreFootprintsOf l.free (has_pair l.pairs) l.calls l.reaches.sets l.footprints.items; count : length l.footprints.items ≡ l.names-index }
