-- The footprints and the waves of a trace's calls.
use Rattle.std.specs.Prelude.{◌≡◌, ℕ, ◌<◌, List, length}
use Rattle.kc_types.specs.declared.call.Call.{Call}
use Rattle.kc_model.specs.State.{State}
use Rattle.kc_model.specs.Resources.{Resource}
use Rattle.kc_model.specs.Footprints.{footprint}
use Rattle.kc_footprints.specs.Commuting.{IsWaves}
use Rattle.kc_footprints.specs.Spans.{Footprints, footprint_has, footprint_at}
use Rattle.kc_footprints.specs.Plan.{wave_of}

-- these are the footprints of the calls, and the waves are theirs
pub record AreFootprints (m : State) (calls : List Call) (footprints : Footprints) : Type 0 where
  pub count : length footprints.calls ≡ length calls
  pub touches : (k : ℕ) (r : Resource) → k < length calls → footprint_has footprints.sets (footprint_at footprints k) r ≡ footprint m calls k r
  pub waves_count : length footprints.waves ≡ length calls
  pub waves : IsWaves m calls (wave_of footprints.waves)
