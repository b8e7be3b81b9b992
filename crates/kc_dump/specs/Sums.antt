-- Sums.
use Rattle.std.specs.Prelude.{ℕ, zero, suc, ◌+◌}

-- the sum over the numbers below this one
abbrev pub sum_below : (ℕ → ℕ) → ℕ → ℕ
sum_below a zero = 0
sum_below a (suc n) = sum_below a n + a n
