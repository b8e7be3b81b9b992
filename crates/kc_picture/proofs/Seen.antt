-- What follows from heights: whatever is on a line is seen, and where there is nothing none is.
use Rattle.std.proofs.Common.{ℕ, ◌≡◌, ◌+◌, ◌<◌, ◌≤◌, List, length, slice_index, ◌∙◌, inl, inr, arith}
use Rattle.kc_picture.specs.declared.vms.Step.{Step}
use Rattle.kc_picture.specs.declared.outlines.Which.{Which}
use Rattle.kc_picture.specs.Outlines.{number_on, FallsInto, AreHeights}
use Rattle.kc_picture.proofs.Heights.{each-line-falls}

-- each line, however many there are, falls into a column that is at least as high as the line's number
pub each-line-seen : (which : Which) (lines : ℕ) (steps : List Step) (heights : List ℕ) → AreHeights which lines steps heights → (line : ℕ) → 0 < line → line ≤ lines
    → (column : ℕ) × (column < length heights) × (number_on which (lines + 1) line steps ≤ slice_index heights column)
each-line-seen which lines steps heights are line some within =
    let at = each-line-falls lines (length heights) line some within (omega (arith, are.0, some, within)) in
    (at.0, at.1, (are.1 at.0 at.1).no_line_is_above line at.2)

-- a column all of whose lines have 0 is empty
pub none-where-none : (which : Which) (lines : ℕ) (steps : List Step) (heights : List ℕ) → AreHeights which lines steps heights → (column : ℕ) → column < length heights
    → ((line : ℕ) → FallsInto lines (length heights) line column → number_on which (lines + 1) line steps ≡ 0) → slice_index heights column ≡ 0
none-where-none which lines steps heights are column low none =
    elim ((are.1 column low).is_a_lines) [ inl is ↦ is | inr one ↦ one.2 ∙ none one.0 one.1 ]
