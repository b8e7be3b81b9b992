-- The rows of the picture of one VM, and the bars in them.
use Rattle.std.specs.Prelude.{ℕ, Bool, List, [], ◌∷◌, ◌++◌, filter, eqb, if◌then◌else◌}
use Rattle.std.specs.List.{list_any}
use Rattle.kc_types.specs.declared.custody.Bar.{Bar}
use Rattle.kc_model.specs.Lives.{is_owned_by}

-- the bars that are the VM's in this slot, in their order
abbrev pub is_held_by : ℕ → Bar → Bool
is_held_by v bar = is_owned_by v bar.custody.owner

abbrev pub bars_of_vm : ℕ → List Bar → List Bar
bars_of_vm v told = filter (is_held_by v) told

-- a row more, for this frame, unless it has one
abbrev pub with_row : List ℕ → ℕ → List ℕ
with_row rows f = if list_any (eqb f) rows then rows else rows ++ f ∷ []

-- the frames that have rows after these bars, if these frames had some before
abbrev pub rows_after : List ℕ → List Bar → List ℕ
rows_after rows [] = rows
rows_after rows (bar ∷ more) = rows_after (with_row rows bar.frame) more

-- a row for each frame of bars, in the order in which the frames came
abbrev pub rows : List Bar → List ℕ
rows told = rows_after [] told
