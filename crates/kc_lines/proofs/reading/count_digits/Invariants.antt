use Rattle.std.proofs.Common.{◌≡◌, ◌≤◌, ◌-◌, ℕ, List, length, take, true}
use Rattle.std.specs.Char.{is_ascii_digit}
use Rattle.std.specs.List.{list_all}
use Rattle.kc_lines.proofs.reading.count_digits.Given as goal

-- the digits so far
pub record Counted (word : List ℕ) (count : ℕ) : Type 0 where
  pub within : count ≤ length word
  pub digits : list_all is_ascii_digit (take count word) ≡ true

abbrev pub invariant-loop-count : goal.invariant-loop-count
invariant-loop-count l = Counted l.line l.count

abbrev pub decreases-loop-count : goal.decreases-loop-count
decreases-loop-count l = length l.line - l.count
