use Rattle.kc_footprints.specs.Plan.{wave_of}
use Rattle.kc_replay.proofs.Onward.{IsUpTo}
use Rattle.kc_replay.proofs.segment.replay_waves.Given as goal

abbrev pub invariant-loop-done : goal.invariant-loop-done
invariant-loop-done g l = IsUpTo l.fn.core.state l.calls (wave_of l.fn.prepared.plan) l.done l.store.state l.replies.items
