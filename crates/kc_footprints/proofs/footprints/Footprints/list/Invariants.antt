use Rattle.std.proofs.Common.{◌≡◌, ◌++◌}
use Rattle.kc_footprints.specs.Spans.{frames_of}
use Rattle.kc_footprints.proofs.footprints.Footprints.list.Given as goal

abbrev pub invariant-loop-place : goal.invariant-loop-place
invariant-loop-place l = l.members.items ≡ l.fn.members.items ++ frames_of l.self.sets l.fn.frame l.fn.other (record { principal = l.fn.span.principal; length = l.place })
