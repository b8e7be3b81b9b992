use Rattle.kc_replay.proofs.Owning.{IsOwnedBelow}
use Rattle.kc_replay.proofs.owned.owned_frames.Given as goal

abbrev pub invariant-loop-frame : goal.invariant-loop-frame
invariant-loop-frame l = IsOwnedBelow l.core.state l.frame l.pairs.items
