-- The waves of the planner are those of the definitions.
use Rattle.std.proofs.Common.{ℕ, ◌<◌, List, length, map}
use Rattle.std.specs.Prelude.{nat_lt, IfSome, Option, Some, None}
use Rattle.std.proofs.lemmas.Bool.{cond_both, ltb-true}
use Rattle.std.proofs.lemmas.List.{length-map}
use Rattle.kc_footprints.specs.Planned.{ComesJustAfter}
use Rattle.kc_footprints.proofs.PlannedWaves.{is_plan}
use Rattle.kc_types.specs.Configuration.{Configuration, slot_count}
use Rattle.kc_types.specs.declared.call.Call.{Call}
use Rattle.kc_types.specs.Slots.{slot_of}
use Rattle.kc_model.specs.State.{State}
use Rattle.kc_model.specs.Footprints.{call_at, footprint}
use Rattle.kc_footprints.specs.Commuting.{IsWaves}
use Rattle.kc_footprints.specs.Naming.{below, named_frame, names_of}
use Rattle.kc_footprints.specs.Reach.{names_at, touches}
use Rattle.kc_footprints.specs.Owned.{IsOwned}
use Rattle.kc_footprints.specs.Planner.{IsInRange, has_pair}
use Rattle.kc_footprints.proofs.Carried.{names_are, carried}

pub below_low : (n : ℕ) (o : Option ℕ) → IfSome (below n o) (λ x. x < n)
below_low n None = tt
below_low n (Some x) = cond_both (nat_lt x n) (Some x) None (λ o. IfSome o (λ y. y < n)) (λ less. ltb-true x n less) (λ past. tt)

-- the numbers that calls name exist
pub names_range : (config : Configuration) (calls : List Call) (k : ℕ) → k < length (map (names_of config) calls) → IsInRange config.frames (slot_count config) (names_at (map (names_of config) calls) k)
names_range config calls k low =
    let below_calls : k < length calls = rw (length-map calls (names_of config)) at low in
    rw (names_are config calls k below_calls) record { frame = below_low config.frames (named_frame (call_at calls k)); slot = below_low (slot_count config) (slot_of (call_at calls k)) }

pub waves_are : (m : State) (calls : List Call) (pairs : List (ℕ × ℕ)) (wave : ℕ → ℕ) → IsOwned m pairs
    → ((k : ℕ) → k < length (map (names_of m.config) calls) → ComesJustAfter (touches (slot_count m.config) (has_pair pairs) (map (names_of m.config) calls)) wave k)
    → IsWaves m calls wave
waves_are m calls pairs wave owned each =
    is_plan (footprint m calls) wave (λ k r. r) (length calls)
    (λ k low. carried m calls pairs owned wave k low (each k (rw (length-map calls (names_of m.config)) low)))
