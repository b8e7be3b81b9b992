-- Where a text first differs from another.
use Rattle.std.specs.Prelude.{◌≡◌, ◌≢◌, ◌+◌, ◌==◌, ℕ, List, take, Option, Some, None}
use Rattle.std.specs.List.{count_by}

-- the texts have just this many bytes in common at their beginning
pub record PartAfter (n : ℕ) (text other : List ℕ) : Type 0 where
  pub same : take n text ≡ take n other
  pub apart : take (n + 1) text ≢ take (n + 1) other

-- the number, from 1, of the line that the byte after the first n is on
abbrev pub line_after : ℕ → List ℕ → ℕ
line_after n text = 1 + count_by (λ b. b == 10) (take n text)

-- the first line that differs, if one does
abbrev pub IsDifference : Option ℕ → List ℕ → List ℕ → Type 0
IsDifference None text other = text ≡ other
IsDifference (Some line) text other = (n : ℕ) × PartAfter n text other × (line ≡ line_after n text)
