-- The columns of a picture, in which the lines of a trace lie.
use Rattle.std.specs.Prelude.{ℕ, ◌+◌, ◌*◌, ◌/◌, min}
use Rattle.kc_picture.specs.declared.scale.TheConstants.{LEFT, PLOT, MOST_POINTS}

-- one column for each line, or, of a long trace, one for each point
abbrev pub columns_of : ℕ → ℕ
columns_of last = min last MOST_POINTS

-- where a column begins
abbrev pub column_x : (last column : ℕ) → ℕ
column_x last column = LEFT + PLOT * min column (columns_of last) / columns_of last
