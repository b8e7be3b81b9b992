-- Endings: where the sharing of frames ends, and which ending a stretch of sharing has.
use Rattle.std.specs.Prelude.{ℕ, ◌≡◌, ◌<◌, ◌+◌, ◌==◌, ◌&&◌, Bool, true, false, List, [], ◌∷◌, length, nat_lt, slice_get, slice_index_or, replicate, Option, None, if◌then◌else◌}
use Rattle.std.specs.Option.{option_or}
use Rattle.kc_types.specs.declared.custody.FrameChange.{FrameChange}
use Rattle.kc_types.specs.declared.custody.Change.TheVariants as change
use Rattle.kc_types.specs.declared.custody.Event.{Event}
use Rattle.kc_types.specs.declared.custody.Event.TheVariants as event
use Rattle.kc_model.specs.Lives.{end_of_sharing}

-- the lines at which the sharing of a frame ended, and whether it was shared since
pub record FrameEndings : Type 0 where
  pub lines : List ℕ
  pub pending : Bool

-- its sharing did not end, and did not begin
abbrev pub no_endings : FrameEndings
no_endings = record { lines = []; pending = false }

-- no frame's sharing ended or began
abbrev pub AreNone : ℕ → List FrameEndings → Type 0
AreNone frames endings = endings ≡ replicate frames no_endings

-- the ending came already, or it is the next one and is to come
abbrev pub HasEnding : FrameEndings → ℕ → Type 0
HasEnding frame number = number < (if frame.pending then length frame.lines + 1 else length frame.lines)

-- the line at which a change ends the frame's sharing
abbrev pub ended_by : FrameChange → Option ℕ
ended_by told = end_of_sharing told.frame (event.Change (change.Frame told) ∷ [])

-- whether the frame is shared after the change, and was not before
abbrev pub begins_sharing : FrameChange → Bool
begins_sharing told = (told.before.share == 0) && nat_lt 0 told.after.share

-- each ending that was there is there, and has come if it came before, or comes by this change
abbrev pub NotesChange : FrameChange → FrameEndings → FrameEndings → Type 0
NotesChange told old new = (number : ℕ) → HasEnding old number → HasEnding new number × (slice_get new.lines number ≡ option_or (slice_get old.lines number) (ended_by told))

-- if a stretch begins with the change, this is the number of its ending, which is to come
abbrev pub NumbersStretch : FrameChange → FrameEndings → ℕ → Type 0
NumbersStretch told new number = begins_sharing told ≡ true → HasEnding new number × (slice_get new.lines number ≡ None)

-- the line of a frame's ending
abbrev pub line_of_ending : List FrameEndings → ℕ → ℕ → Option ℕ
line_of_ending endings frame number = slice_get (slice_index_or endings frame no_endings).lines number

-- the same of the frame with this number
abbrev pub HasEndingOf : List FrameEndings → ℕ → ℕ → Type 0
HasEndingOf endings frame number = HasEnding (slice_index_or endings frame no_endings) number

-- each ending of each frame that was there is there, and has come if it came before, or comes by this event
pub record NotesEvent (told : Event) (old new : List FrameEndings) : Type 0 where
  pub count : length new ≡ length old
  pub each : (frame number : ℕ) → HasEndingOf old frame number → HasEndingOf new frame number × (line_of_ending new frame number ≡ option_or (line_of_ending old frame number) (end_of_sharing frame (told ∷ [])))

-- the change is taken in, if there is such a frame
abbrev pub NotesChanges : FrameChange → List FrameEndings → List FrameEndings → Type 0
NotesChanges told old new = told.frame < length old → NotesEvent (event.Change (change.Frame told)) old new

-- if a stretch begins with the change, this is the number of its ending among those of the frame, which is to come
abbrev pub NumbersStretches : FrameChange → List FrameEndings → ℕ → Type 0
NumbersStretches told new number = begins_sharing told ≡ true → HasEndingOf new told.frame number × (line_of_ending new told.frame number ≡ None)
