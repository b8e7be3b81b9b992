use Rattle.std.proofs.Common.{take}
use Rattle.kc_footprints.proofs.Starts.{AreOwned}
use Rattle.kc_footprints.proofs.reaches.start.Given as goal

abbrev pub invariant-loop-principal : goal.invariant-loop-principal
invariant-loop-principal l = AreOwned l.principals (take l.principal-index l.pairs) l.sets
