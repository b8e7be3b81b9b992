-- Changes of frames that exist, and the line of the next change of each frame.
use Rattle.std.specs.Prelude.{ℕ, ◌≡◌, ◌<◌, Bool, nat_lt, List, length, slice_index, Option, Some, None}
use Rattle.kc_types.specs.declared.custody.Bar.{Bar}
use Rattle.kc_types.specs.declared.custody.Change.{Change}
use Rattle.kc_types.specs.declared.custody.Change.TheVariants as change
use Rattle.kc_types.specs.declared.custody.FrameChange.{FrameChange}
use Rattle.kc_types.specs.declared.custody.Event.{Event}
use Rattle.kc_types.specs.declared.custody.Event.TheVariants as event
use Rattle.kc_model.specs.Bars.{next_line}

-- a frame that changes is one of this many, and the change of a slot is of no frame
abbrev pub IsIn : ℕ → Change → Type 0
IsIn frames (change.Frame told) = told.frame < frames
IsIn frames (change.Phase told) = Unit {0}

-- of each of this many frames the line of its first change, or the end
pub record AreNextLines (frames end : ℕ) (changes : List Change) (lines : List ℕ) : Type 0 where
  pub long : length lines ≡ frames
  pub each : (f : ℕ) → f < frames → slice_index lines f ≡ next_line end f changes

-- the bar has a line: a frame that changes on the header's line has none before that
abbrev pub is_lasting : Bar → Bool
is_lasting bar = nat_lt bar.from bar.to

-- the change of a frame that an event is, if it is one
abbrev pub told_in : Event → Option FrameChange
told_in (event.Change (change.Frame told)) = Some told
told_in _ = None
