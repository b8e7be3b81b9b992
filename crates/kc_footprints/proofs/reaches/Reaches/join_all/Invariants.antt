use Rattle.std.proofs.Common.{length}
use Rattle.kc_footprints.proofs.Joins.{IsFreeing}
use Rattle.kc_footprints.proofs.reaches.Reaches.join_all.Given as goal

abbrev pub invariant-loop-place : goal.invariant-loop-place
invariant-loop-place l =
    IsFreeing (length l.fn.self.sets) l.free l.slot l.place l.fn.self l.self
