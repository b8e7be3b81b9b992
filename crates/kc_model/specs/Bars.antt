-- Bars: stretches of lines during which a frame's custody does not change.
use Rattle.std.specs.Prelude.{ℕ, ◌≡◌, ◌<◌, ◌≤◌, ◌+◌, Bool, ◌==◌, List, [], ◌∷◌, ◌++◌, map, filter, length, All, if◌then◌else◌}
use Rattle.std.specs.List.{range_with_len}
use Rattle.kc_types.specs.declared.call.Call.{Call}
use Rattle.kc_types.specs.declared.custody.Change.{Change}
use Rattle.kc_types.specs.declared.custody.Change.TheVariants as change
use Rattle.kc_types.specs.declared.custody.Bar.{Bar}
use Rattle.kc_model.specs.State.{State}
use Rattle.kc_model.specs.Footprints.{state_at}
use Rattle.kc_model.specs.Custody.{custody, custody_at, first_line}

-- the line of the frame's first change, or the end
abbrev pub next_line : ℕ → ℕ → List Change → ℕ
next_line end f [] = end
next_line end f (change.Frame told ∷ more) = if told.frame == f then told.line else next_line end f more
next_line end f (change.Phase told ∷ more) = next_line end f more

-- the bar of a frame up to its first change
abbrev pub first_bar : State → ℕ → List Change → ℕ → Bar
first_bar m end changes f = record { frame = f; custody = custody_at m f; from = 1; to = next_line end f changes }

-- a bar from each change of a frame up to the frame's next change
abbrev pub later_bars : ℕ → List Change → List Bar
later_bars end [] = []
later_bars end (change.Frame told ∷ more) = record { frame = told.frame; custody = told.after; from = told.line; to = next_line end told.frame more } ∷ later_bars end more
later_bars end (change.Phase told ∷ more) = later_bars end more

-- the bars of all frames, up to the line `end`, for changes that begin in this state
abbrev pub bars : State → ℕ → List Change → List Bar
bars m end changes = map (first_bar m end changes) (range_with_len 0 m.config.frames) ++ later_bars end changes

-- the line after a trace's last call
abbrev pub end_of_trace : List Call → ℕ
end_of_trace calls = first_line + length calls

abbrev pub bars_of_trace : State → List Call → List Bar
bars_of_trace m calls = bars m (end_of_trace calls) (custody m calls)

abbrev pub is_bar_of : ℕ → Bar → Bool
is_bar_of f bar = bar.frame == f

-- the bars follow one another without gaps, from one line to another
abbrev pub Follow : ℕ → ℕ → List Bar → Type 0
Follow from to [] = from ≡ to
Follow from to (bar ∷ more) = (bar.from ≡ from) × (from < bar.to) × Follow bar.to to more

-- the bar has its frame's custody after the call on each of its lines; line 1 is the header, after which no call has
-- been made
abbrev pub Tells : State → List Call → Bar → Type 0
Tells m calls bar = (k : ℕ) → bar.from ≤ k + 1 → k + 1 < bar.to → custody_at (state_at m calls k) bar.frame ≡ bar.custody

-- the bars of a frame follow one another from the first line to the end, and each has its frame's custody throughout
pub record AreBars (m : State) (calls : List Call) : Type 0 where
  pub follow : (f : ℕ) → f < m.config.frames → Follow 1 (end_of_trace calls) (filter (is_bar_of f) (bars_of_trace m calls))
  pub tell : All (Tells m calls) (bars_of_trace m calls)
