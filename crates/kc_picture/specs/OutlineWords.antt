-- An outline and an underline as they are drawn: the steps of a path, by the heights of the columns.
use Rattle.std.specs.Prelude.{ℕ, ◌≡◌, ◌+◌, ◌-◌, ◌*◌, ◌/◌, ◌^◌, ◌==◌, min, max, List, [], ◌∷◌, ◌++◌, codes, false, string_bytes, if◌then◌else◌}
use Rattle.kc_picture.specs.declared.vms.Step.{Step}
use Rattle.kc_picture.specs.declared.words.Text.{Text}
use Rattle.kc_picture.specs.declared.outlines.Which.{Which}
use Rattle.kc_picture.specs.declared.outlines.Which.TheVariants.{Shared}
use Rattle.kc_picture.specs.declared.lane_drawing.TheConstants.{LOWEST}
use Rattle.kc_picture.specs.declared.lane_drawing.LanePlace.{LanePlace}
use Rattle.kc_picture.specs.Columns.{column_x}
use Rattle.kc_picture.specs.Outlines.{AreHeights}
use Rattle.kc_picture.specs.Words.{length_words}

-- where a number is drawn: 0 on the base line, and each other above it, the greatest of all lanes at the lane's height
abbrev pub top_of : LanePlace → ℕ → ℕ
top_of place number = if number == 0 then place.base else place.base - max (min (place.height * number) (2 ^ 64 - 1) / max place.top 1) LOWEST

-- a path begins at a column, at a height, if the number before that is 0; else it goes on up to there
abbrev pub approach_words : (last y before column : ℕ) → List ℕ
approach_words last y before column = if before == 0 then (codes "M" ++ length_words (column_x last column)) ++ (codes " " ++ length_words y) else codes "H" ++ length_words (column_x last column)

-- where the height changes at a column the outline goes up or down there, and ends if that is to 0
abbrev pub edge_words : LanePlace → (before height column : ℕ) → List ℕ
edge_words place before height column = approach_words place.scale.last place.base before column ++ ((codes "V" ++ length_words (top_of place height)) ++ (if height == 0 then codes "Z" else []))

-- the outline over the columns from one on, before which it was this high: an edge where two differ, and one to 0 after the last
abbrev pub outline_words : LanePlace → (before column : ℕ) → List ℕ → List ℕ
outline_words place before column [] = if before == 0 then [] else edge_words place before 0 column
outline_words place before column (height ∷ more) = (if height == before then [] else edge_words place before height column) ++ outline_words place height (column + 1) more

-- a text draws the outline of a number of steps: that of columns each as high as the greatest number on any line that falls into it
abbrev pub IsOutline : LanePlace → Which → List Step → Text → Type 0
IsOutline place which steps path = path.refused ≡ false → (heights : List ℕ) × AreHeights which place.scale.last steps heights × (string_bytes path.text ≡ outline_words place 0 0 heights)

-- a line from each column whose height is not 0, after one whose height is, up to the next whose height is 0
abbrev pub underline_words : (last y before column : ℕ) → List ℕ → List ℕ
underline_words last y before column [] = if before == 0 then [] else approach_words last y before column
underline_words last y before column (height ∷ more) = (if before == 0 then (if height == 0 then [] else approach_words last y before column) else (if height == 0 then approach_words last y before column else [])) ++ underline_words last y height (column + 1) more

-- a text draws a line along each column into which a line falls on which any frame is shared
abbrev pub IsUnderline : (last y : ℕ) → List Step → Text → Type 0
IsUnderline last y steps path = path.refused ≡ false → (heights : List ℕ) × AreHeights Shared last steps heights × (string_bytes path.text ≡ underline_words last y 0 0 heights)
