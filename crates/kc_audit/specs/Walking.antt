-- How an audit follows a list, and counts the frames of an owner.
use Rattle.std.specs.Prelude.{ℕ, zero, suc, ◌≡◌, List, length, Option, Some, None, slice_get, MatchOption}
use Rattle.kc_types.specs.declared.owner.Owner.{Owner}
use Rattle.kc_dump.specs.declared.line.FrameLine.{FrameLine}
use Rattle.kc_dump.specs.Lists.{owned}
use Rattle.kc_dump.specs.Sums.{sum_below}

-- the frame may come next: it exists, is the owner's, and is preceded by this one
pub record ComesNext (lines : List FrameLine) (owner : Owner) (before : Option ℕ) (f : ℕ) : Type 0 where
  pub line : FrameLine
  pub is : slice_get lines f ≡ Some line
  pub mine : line.owner ≡ owner
  pub prev : line.prev ≡ before

abbrev pub next_in : Option FrameLine → Option ℕ
next_in None = None
next_in (Some line) = line.next

-- this many frames follow one another from here, and the last of them is the tail
abbrev pub Walks : List FrameLine → Owner → Option ℕ → Option ℕ → Option ℕ → ℕ → Type 0
Walks lines owner tail before here zero = (here ≡ None) × (before ≡ tail)
Walks lines owner tail before here (suc n) = MatchOption here ⊥ (λ f. ComesNext lines owner before f × Walks lines owner tail (Some f) (next_in (slice_get lines f)) n)

-- the number of the owner's frames
abbrev pub count_owned : List FrameLine → Owner → ℕ
count_owned lines owner = sum_below (owned lines owner) (length lines)
