use Rattle.std.proofs.Common.{◌≡◌, replicate, []}
use Rattle.kc_footprints.proofs.reach_sets.ReachSets.new.Given as goal

abbrev pub invariant-loop : goal.invariant-loop
invariant-loop l = l.sets.items ≡ replicate l.counter []
