-- What a session answers to a line and to a call, and the trace that it leaves.
use Rattle.std.specs.Prelude.{◌≡◌, ◌≢◌, ℕ, ◌+◌, List, [], ◌∷◌, ◌++◌, Option, Some, None, IfSome, length, map}
use Rattle.kc_types.specs.Limits.{call_limit}
use Rattle.kc_types.specs.Actors.{actor}
use Rattle.kc_types.specs.Configuration.{Configuration}
use Rattle.kc_types.specs.declared.call.Call.{Call}
use Rattle.kc_types.specs.declared.call.Actor.{Actor}
use Rattle.kc_types.specs.declared.custody.FrameChange.{FrameChange}
use Rattle.kc_trace.specs.declared.header.Header.{Header}
use Rattle.kc_trace.specs.declared.header.Position.{Position}
use Rattle.kc_model.specs.State.{State}
use Rattle.kc_model.specs.Boot.{boot}
use Rattle.kc_model.specs.Next.{next}
use Rattle.kc_model.specs.Custody.{frame_changes_by, first_line}
use Rattle.kc_model.specs.Volumes.{IsCoreState}
use Rattle.kc_trace.specs.Reading.{call_of}
use Rattle.kc_trace.specs.ReplyText.{reply_line_of}
use Rattle.kc_trace.specs.Header.{IsPosition, trace_header}
use Rattle.kc_trace.specs.Spelling.{line_of}
use Rattle.kc_live.specs.Book.{Log, Recording, new_recording, next_recording, onward, recorded, reply_to}
use Rattle.kc_redact.specs.Redacted.{redacted_line}
use Rattle.kc_state_text.specs.StateText.{placed_state_text}
use Rattle.kc_session.specs.declared.session.AskFault.{AskFault}
use Rattle.kc_session.specs.declared.session.Form.{Form}
use Rattle.kc_session.specs.declared.session.Form.TheVariants.{Whole, Redacted}
use Rattle.kc_session.specs.declared.session.AskFault.TheVariants.{BadLine, NotYours, HistoryFull, Memory}

-- a session: the volume that it fills, the header of its trace, and what the last call changed of the custody of frames, in rising order of frames
pub record Kept : Type 0 where
  pub header : Header
  pub log : Log
  pub changes : List FrameChange

-- the volume that a session fills, with the header of its trace
abbrev pub recording : Kept → Recording
recording kept = record { header = kept.header; log = kept.log }

abbrev pub kept_of : Recording → List FrameChange → Kept
kept_of r changes = record { header = r.header; log = r.log; changes = changes }

-- a session whose core is in this state, and that was asked nothing yet: its trace has a head with this position, or none
abbrev pub begun : Option Position → State → Kept
begun position m = kept_of (new_recording position m) []

abbrev pub new_session : Option Position → Configuration → Kept
new_session position config = begun position (boot config)

-- the session goes on from the state that the text spells, and was asked nothing yet: it fills the volume that the text says, or one without a head
abbrev pub GoesOnFrom : Kept → List ℕ → Type 0
GoesOnFrom kept text = (position : Option Position) × IfSome position IsPosition × (text ≡ placed_state_text position kept.log.state) × IsCoreState kept.log.state × (kept ≡ begun position kept.log.state)

-- the next volume, whose header follows from this one's; no call was made
abbrev pub turned : Kept → Kept
turned kept = kept_of (next_recording (recording kept)) kept.changes

-- where the volume comes that goes on from the session's state, if it has a head
abbrev pub onward_of : Kept → Option Position
onward_of kept = onward (recording kept)

-- what the next call changes of the custody of frames; its line is the one that it has in the volume's trace
abbrev pub changes_to : Log → Call → List FrameChange
changes_to log call = frame_changes_by (length log.entries + first_line) log.state (next log.state call).1

-- the session with one call more, and the changes that it made
abbrev pub with_call : Kept → Call → Kept
with_call kept call = kept_of (recorded (recording kept) call) (changes_to kept.log call)

-- the call is the asker's; if nobody is named, it is anybody's
abbrev pub IsOf : Option Actor → Call → Type 0
IsOf None call = Unit {0}
IsOf (Some asker) call = actor call ≡ asker

-- the call is another's than the asker's
abbrev pub IsAnothers : Option Actor → Call → Type 0
IsAnothers None call = ⊥
IsAnothers (Some asker) call = actor call ≢ asker

-- the line is a call of the asker's, which the volume now has with the reply that the rules give it, and the bytes are that reply's line
pub record IsAnswer (asker : Option Actor) (old new : Kept) (line bytes : List ℕ) : Type 0 where
  pub call : Call
  pub read : call_of line ≡ Some call
  pub yours : IsOf asker call
  pub made : new ≡ with_call old call
  pub told : bytes ≡ reply_line_of (reply_to old.log call) ++ 10 ∷ []

-- why a call is not made: it is another's, or the volume is full, or memory was short
abbrev pub IsUnmade : Option Actor → Kept → Call → AskFault → Type 0
IsUnmade asker kept call BadLine = ⊥
IsUnmade asker kept call NotYours = IsAnothers asker call
IsUnmade asker kept call HistoryFull = IsOf asker call × (length kept.log.entries ≡ call_limit)
IsUnmade asker kept call Memory = Unit {0}

-- why a line is not answered: it is not a call, or the call is not made, or memory was short
abbrev pub IsUnanswered : Option Actor → Kept → List ℕ → AskFault → Type 0
IsUnanswered asker kept line BadLine = call_of line ≡ None
IsUnanswered asker kept line Memory = Unit {0}
IsUnanswered asker kept line fault = (call : Call) × (call_of line ≡ Some call) × IsUnmade asker kept call fault

-- the line of a call in a form, with its newline
abbrev pub line_in : Form → Call → List ℕ
line_in Whole call = line_of call ++ 10 ∷ []
line_in Redacted call = redacted_line call

-- the trace of a volume in a form, line by line: its header, with all lines of a head, and the calls
abbrev pub lines_in : Form → Kept → List (List ℕ)
lines_in form kept = trace_header kept.header ∷ map (λ entry. line_in form entry.call) kept.log.entries

abbrev pub trace_lines : Kept → List (List ℕ)
trace_lines kept = lines_in Whole kept

abbrev pub redacted_lines : Kept → List (List ℕ)
redacted_lines kept = lines_in Redacted kept
