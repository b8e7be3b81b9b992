-- Numbers and flags that are not written one by one as long as they are all that there can be.
use Rattle.std.specs.Prelude.{ℕ, ◌≡◌, ◌<◌, ◌≤◌, Bool, true, List, [], ◌∷◌, length, replicate}
use Rattle.std.specs.List.{range_with_len}
use Rattle.kc_parts.specs.declared.frame_numbers.Numbers.{Numbers}
use Rattle.kc_parts.specs.declared.frame_numbers.Numbers.TheVariants.{Below, Listed}

abbrev pub numbers_of : Numbers → List ℕ
numbers_of (Below limit) = range_with_len 0 limit
numbers_of (Listed numbers) = numbers.items

-- the flags: all set if none is in memory
abbrev pub flags_of : ℕ → List Bool → List Bool
flags_of count [] = replicate count true
flags_of count (flag ∷ flags) = flag ∷ flags

-- all flags are in memory or none, and there is room for all
pub record AreFlags (count : ℕ) (each : List Bool) (capacity : ℕ) : Type 0 where
  pub whole : 0 < length each → length each ≡ count
  pub room : count ≤ capacity
