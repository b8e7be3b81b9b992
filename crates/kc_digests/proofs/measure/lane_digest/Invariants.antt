use Rattle.std.proofs.Common.{◌≡◌, ◌*◌, length, take}
use Rattle.sha2.specs.Sha256.{digest_bytes}
use Rattle.kc_digests.specs.Lanes.{state_lane}
use Rattle.kc_digests.proofs.measure.lane_digest.Given as goal

abbrev pub invariant-words : goal.invariant-words
invariant-words g l = (length l.out ≡ 32) × (take (4 * l.i) l.out ≡ digest_bytes (state_lane g.V.Vector.word l.lane l.state) l.i)
