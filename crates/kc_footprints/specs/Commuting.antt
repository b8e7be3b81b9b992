-- What each call of a trace needs, and what each wave finds and leaves.
use Rattle.std.specs.Prelude.{ℕ, ◌<◌, List, length}
use Rattle.kc_types.specs.declared.call.Call.{Call}
use Rattle.kc_model.specs.State.{State}
use Rattle.kc_model.specs.Lawful.{IsLawful}
use Rattle.kc_model.specs.Resources.{need, IsWithin}
use Rattle.kc_model.specs.Linked.{linked_part_at}
use Rattle.kc_model.specs.Footprints.{call_at, state_at, part_at, footprint}
use Rattle.kc_footprints.specs.Order.{IsPlan, Commutes}

-- what a call needs lies in its footprint
abbrev pub HasNeeds : Type 0
HasNeeds = (m : State) (calls : List Call) → IsLawful m → (k : ℕ) → k < length calls → IsWithin (need (state_at m calls k) (call_at calls k)) (footprint m calls k)

-- the wave of each call is the length of the longest chain of calls that ends with it, each of which shares a resource
-- with the next
abbrev pub IsWaves : State → List Call → (ℕ → ℕ) → Type 0
IsWaves m calls wave = IsPlan (footprint m calls) wave (length calls)

-- before a call its footprint has what the waves before its own leave, and the last wave leaves the final state
abbrev pub IsCommuting : Type 0
IsCommuting = (m : State) (calls : List Call) (wave : ℕ → ℕ) → IsLawful m → IsWaves m calls wave
    → Commutes (footprint m calls) wave (part_at m calls) (length calls)

-- the same with links in the frames, and with a list's ends in place of the list
abbrev pub IsCommutingLinked : Type 0
IsCommutingLinked = (m : State) (calls : List Call) (wave : ℕ → ℕ) → IsLawful m → IsWaves m calls wave
    → Commutes (footprint m calls) wave (linked_part_at m calls) (length calls)
