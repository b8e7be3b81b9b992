use Rattle.std.proofs.Common.{◌≡◌, ℕ, ◌<◌}
use Rattle.sha2.specs.Sha256.{hash_after}
use Rattle.kc_digests.specs.Lanes.{part_of, state_lane}
use Rattle.kc_digests.proofs.measure.run_blocks.Given as goal

abbrev pub invariant-part : goal.invariant-part
invariant-part g l = (j : ℕ) → j < g.V.Vector.LANES
    → state_lane g.V.Vector.word j l.state ≡ hash_after (state_lane g.V.Vector.word j l.initial.state) (part_of j l.parts) l.i
