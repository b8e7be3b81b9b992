-- Lists of numbers read as sets.
use Rattle.std.specs.Prelude.{◌≡◌, ℕ, ◌+◌, ◌*◌, ◌<◌, ◌^◌, Bool, false, List, [], ◌∷◌, ◌++◌, length, get_or, Option, eqb, position, if◌then◌else◌}
use Rattle.std.specs.List.{list_any}

abbrev pub has_member : List ℕ → ℕ → Bool
has_member xs f = list_any (eqb f) xs

abbrev pub position_in : List ℕ → ℕ → Option ℕ
position_in xs f = position (eqb f) xs

abbrev pub with_member : List ℕ → ℕ → List ℕ
with_member xs f = if has_member xs f then xs else xs ++ f ∷ []

-- the flags say, for each number from 0 on, which sets have it; missing flags are false
pub record AreFlags (sets : List (List ℕ)) (flags : List Bool) : Type 0 where
  pub few : length sets < 2 ^ 32
  pub has : (p f : ℕ) → p < length sets → get_or flags (f * length sets + p) false ≡ has_member (get_or sets p []) f
