-- A number below a limit, or none, kept as one number.
use Rattle.std.specs.Prelude.{ℕ, Option, Some, None, if◌then◌else◌, nat_lt, refl}
use Rattle.std.proofs.Common.{◌≡◌, ◌≤◌, inl, inr, arith}
use Rattle.std.proofs.lemmas.Bool.{cases_lt, lt-ltb, le-ltb}

-- the option that a number keeps: none, if it is the limit or above
abbrev pub below : ℕ → ℕ → Option ℕ
below limit n = if nat_lt n limit then Some n else None

-- the number that keeps an option
abbrev pub or_limit : ℕ → Option ℕ → ℕ
or_limit limit None = limit
or_limit limit (Some n) = n

-- up to the limit, each number is the one that keeps its option
pub back : (limit n : ℕ) → n ≤ limit → or_limit limit (below limit n) ≡ n
back limit n few = elim (cases_lt n limit) [
  | inl lt ↦ rw (lt-ltb n limit lt) refl
  | inr le ↦ rw (le-ltb n limit le) (omega (arith, few, le))
]
