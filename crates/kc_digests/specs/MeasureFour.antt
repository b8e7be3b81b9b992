-- What four lanes were fed.
use Rattle.std.specs.Prelude.{◌≡◌, ℕ, ◌/◌, ◌%◌, ◌^◌, List, length, slice_index}
use Rattle.sha2.specs.Sha256.{hash_after, initial_hash_256}
use Rattle.kc_digests.specs.declared.measure.MeasureFour.{MeasureFour}
use Rattle.kc_digests.specs.Lanes.{state_lane}

-- lane j was fed exactly these bytes, in whole blocks
pub record LaneWasFed (measure : MeasureFour) (j : ℕ) (bytes : List ℕ) : Type 0 where
  pub count : measure.len ≡ length bytes % 2 ^ 64
  pub whole : length bytes % 64 ≡ 0
  pub hash : state_lane slice_index j measure.state ≡ hash_after initial_hash_256 bytes (length bytes / 64)
