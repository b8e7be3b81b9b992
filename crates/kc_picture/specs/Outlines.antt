-- How high an outline is in each column. The lines of a trace lie from left to right in columns of one width.
use Rattle.std.specs.Prelude.{ℕ, ◌≡◌, ◌+◌, ◌-◌, ◌*◌, ◌<◌, ◌≤◌, ◌⊎◌, ◌&&◌, max, Bool, nat_lt, nat_le, if◌then◌else◌, List, [], ◌∷◌, length, slice_index, EachIndex}
use Rattle.kc_picture.specs.Columns.{columns_of}
use Rattle.kc_picture.specs.declared.vms.Step.{Step}
use Rattle.kc_picture.specs.declared.outlines.Which.{Which}
use Rattle.kc_picture.specs.declared.outlines.Which.TheVariants.{All, Shared}

-- the number of a step that is drawn
abbrev pub number_of : Which → Step → ℕ
number_of All step = step.frames
number_of Shared step = step.shared

-- the line up to which the step before these holds: that of the first of them, or the end
abbrev pub next_step : ℕ → List Step → ℕ
next_step end [] = end
next_step end (step ∷ more) = step.line

-- the number on a line: that of a step from its own line up to the next step's, and 0 before the first. The lines of steps ascend,
-- so of several steps on one line the last holds
abbrev pub number_on : Which → ℕ → ℕ → List Step → ℕ
number_on which end line [] = 0
number_on which end line (step ∷ more) = max (number_on which end line more) (if nat_le step.line line && nat_lt line (next_step end more) then number_of which step else 0)

-- a line falls into a column, even if only in part: this many lines lie in `count` columns
abbrev pub FallsInto : (lines count line column : ℕ) → Type 0
FallsInto lines count line column = ((line - 1) * count < (column + 1) * lines) × (column * lines < line * count)

-- a column is as high as the greatest number on any line that falls into it
pub record IsHeight (which : Which) (lines count : ℕ) (steps : List Step) (column height : ℕ) : Type 0 where
  pub no_line_is_above : (line : ℕ) → FallsInto lines count line column → number_on which (lines + 1) line steps ≤ height
  pub is_a_lines : (height ≡ 0) ⊎ ((line : ℕ) × FallsInto lines count line column × (height ≡ number_on which (lines + 1) line steps))

-- as many columns as there are, each as high as that
abbrev pub AreHeights : Which → ℕ → List Step → List ℕ → Type 0
AreHeights which lines steps heights = (length heights ≡ columns_of lines) × EachIndex heights (λ column. IsHeight which lines (length heights) steps column (slice_index heights column))

-- whether any line from `from` up to the one before `to` falls into a column
abbrev pub is_met : (lines count from to column : ℕ) → Bool
is_met lines count from to column = nat_lt from to && nat_lt ((from - 1) * count) ((column + 1) * lines) && nat_lt (column * lines) ((to - 1) * count)
