use Rattle.std.proofs.Common.{◌≡◌, ◌<◌, ℕ, [], get_or, length}
use Rattle.sha2.specs.Sha256.{digest_bytes}
use Rattle.kc_digests.specs.Lanes.{state_lane}
use Rattle.kc_digests.proofs.pages.hash_pages.Given as goal

abbrev pub invariant-lanes : goal.invariant-lanes
invariant-lanes g l = (length l.out ≡ g.V.Vector.LANES) × ((j : ℕ) → j < l.lane → get_or l.out j [] ≡ digest_bytes (state_lane g.V.Vector.word j l.state) 8)
