-- What each function says of a session by its status. A session is the volume that it fills, with what its last call
-- changed; if it is closed, there is none.
use Rattle.std.specs.Prelude.{◌≡◌, ◌≤◌, ◌<◌, ◌+◌, ℕ, true, false, List, Option, Some, None, Ok, IsSome, length, map, take, drop, slice_get, option_map}
use Rattle.std.specs.List.{concat}
use Rattle.kc_types.specs.Configuration.{Configuration, slot_count, has_dump}
use Rattle.kc_types.specs.Limits.{byte_limit, call_limit, page_size}
use Rattle.kc_types.specs.declared.call.Actor.{Actor}
use Rattle.kc_types.specs.declared.config.ConfigFault.TheVariants as numbers
use Rattle.kc_model.specs.State.{mapped_at}
use Rattle.kc_model.specs.Custody.{custody_at}
use Rattle.kc_snapshot.specs.Dumping.{dump_of}
use Rattle.kc_snapshot.specs.Form.{in_form}
use Rattle.kc_snapshot.specs.declared.form.StateForm.{StateForm}
use Rattle.kc_snapshot.specs.declared.form.StateForm.TheVariants.{Blank}
use Rattle.kc_state_text.specs.Refused.{IsRefusedPlaced}
use Rattle.kc_state_text.specs.StateText.{placed_state_text}
use Rattle.kc_state_text.specs.declared.fault.StateFault.{StateFault}
use Rattle.kc_state_text.specs.declared.fault.StateFault.TheVariants as states
use Rattle.kc_dump_text.specs.DumpText.{dump_text}
use Rattle.kc_config_text.specs.ConfigText.{config_in, ConfigFails}
use Rattle.kc_trace.specs.ReplyText.{longest_reply}
use Rattle.kc_trace.specs.declared.header.Position.{Position}
use Rattle.kc_config_text.specs.declared.config_text.ConfigTextFault.TheVariants as texts
use Rattle.sha2.specs.Sha256.{sha256}
use Rattle.kc_session.specs.Session.{Kept, new_session, turned, onward_of, GoesOnFrom, IsAnswer, IsUnanswered, lines_in, redacted_lines}
use Rattle.kc_session.specs.declared.session.Form.{Form}
use Rattle.kc_session.specs.declared.session.AskFault.TheVariants as asks
use Rattle.kcore_c.specs.Record.{record_of, change_of, IsNextOf, HasNoneOf}
use Rattle.kcore_c.specs.Request.{requested, IsDone, IsUndone}
use Rattle.kcore_c.specs.declared.request.Request.{Request}
use Rattle.kcore_c.specs.declared.request.Answer.{Answer}
use Rattle.kcore_c.specs.declared.record.Record.{Record}
use Rattle.kcore_c.specs.declared.record.Change.{Change}
use Rattle.kcore_c.specs.declared.record.Sizes.{Sizes}
use Rattle.kcore_c.specs.declared.status.Status.{Status}
use Rattle.kcore_c.specs.declared.status.Status.TheVariants.{Done, Closed, AlreadyOpen, Memory, NoRoom, NoSuchLine, NoSuchFrame, NoSuchChange, NoSuchCall, Ask, Config, TooLong, State, NoText}

-- their numbers in C
abbrev pub code_of : Status → ℕ
code_of Done = 0
code_of Closed = 1
code_of AlreadyOpen = 2
code_of Memory = 3
code_of NoRoom = 4
code_of NoSuchLine = 5
code_of NoSuchFrame = 15
code_of NoSuchChange = 16
code_of NoSuchCall = 17
code_of (Ask asks.BadLine) = 6
code_of (Ask asks.HistoryFull) = 7
code_of (Ask asks.NotYours) = 14
code_of (Ask asks.Memory) = 3
code_of (Config texts.NotJson) = 8
code_of (Config texts.BadShape) = 9
code_of (Config (texts.Config numbers.Frames)) = 10
code_of (Config (texts.Config numbers.CoreHost)) = 11
code_of (Config (texts.Config numbers.Leaves)) = 12
code_of (Config (texts.Config numbers.TooManyDigests)) = 13
code_of (Config texts.Memory) = 3
code_of TooLong = 18
code_of (State states.NoHeader) = 19
code_of (State (states.BadLine n)) = 20
code_of (State (states.Missing f)) = 21
code_of (State states.Sizes) = 22
code_of (State (states.Found finding)) = 23
code_of (State (states.Slot v)) = 24
code_of (State (states.Frame f)) = 25
code_of (State states.Memory) = 3
code_of NoText = 26

-- the number is that of a status which says so
abbrev pub IsCode : (Status → Type 0) → ℕ → Type 0
IsCode Says code = (status : Status) × (code ≡ code_of status) × Says status

-- A function puts bytes at the front of a buffer and counts them in `used`. `Says` relates the room, the bytes and the
-- status. A status other than `Done` puts none, and the bytes after them stay.
abbrev pub Puts : (ℕ → List ℕ → Status → Type 0) → List ℕ → List ℕ → ℕ → Status → Type 0
Puts Says old new used status = Says (length old) (take used new) status × (used ≤ length new) × (drop used new ≡ drop used old) × ((status ≡ Done → ⊥) → used ≡ 0)

-- the session is that of a core in the boot state of the configuration that the text is, and its first volume has a head with this position, or none
abbrev pub IsBooted : Option Position → Option Kept → List ℕ → Type 0
IsBooted position session text = (config : Configuration) × (config_in text ≡ Ok config) × (session ≡ Some (new_session position config))

-- opening a session with a text, and with a head of this position, or none
abbrev pub BootSays : Option Position → Option Kept → Option Kept → List ℕ → Status → Type 0
BootSays position old new text Done = (old ≡ None) × IsBooted position new text
BootSays position old new text AlreadyOpen = IsSome old × (new ≡ old)
BootSays position old new text TooLong = (old ≡ None) × (new ≡ None) × (byte_limit < length text)
BootSays position old new text (Config fault) = (old ≡ None) × (new ≡ None) × (length text ≤ byte_limit) × ConfigFails fault (config_in text)
BootSays position old new text _ = ⊥

-- the number of the line, frame or slot that is at fault, or 0
abbrev pub place_of : StateFault → ℕ
place_of (states.BadLine n) = n
place_of (states.Missing f) = f
place_of (states.Slot v) = v
place_of (states.Frame f) = f
place_of _ = 0

-- the session is that of a core in the state that the text spells, with the position that it says, and was asked nothing yet
abbrev pub IsResumed : Option Kept → List ℕ → Type 0
IsResumed None text = ⊥
IsResumed (Some kept) text = GoesOnFrom kept text

-- opening a session with the text of a state; a place is reported if the text is refused
abbrev pub ResumeSays : Option Kept → Option Kept → List ℕ → ℕ → ℕ → Status → Type 0
ResumeSays old new text before after Done = (old ≡ None) × IsResumed new text × (after ≡ before)
ResumeSays old new text before after AlreadyOpen = IsSome old × (new ≡ old) × (after ≡ before)
ResumeSays old new text before after TooLong = (old ≡ None) × (new ≡ None) × (byte_limit < length text) × (after ≡ before)
ResumeSays old new text before after (State fault) = (old ≡ None) × (new ≡ None) × (length text ≤ byte_limit) × IsRefusedPlaced text fault × (after ≡ place_of fault)
ResumeSays old new text before after _ = ⊥

-- the text of a session's state in a form, with where the volume comes that goes on from it, if that has a head
abbrev pub text_in : StateForm → Kept → List ℕ
text_in form kept = placed_state_text (onward_of kept) (in_form form kept.log.state)

-- the version of a session's machine has a dump and a text of a state
abbrev pub HasTexts : Kept → Type 0
HasTexts kept = has_dump kept.log.state.config.version ≡ true

-- it has none
abbrev pub LacksTexts : Kept → Type 0
LacksTexts kept = has_dump kept.log.state.config.version ≡ false

-- giving the text of a session's state in a form, with room for this many bytes
abbrev pub StateSays : StateForm → Option Kept → ℕ → List ℕ → Status → Type 0
StateSays form (Some kept) room bytes Done = HasTexts kept × (bytes ≡ text_in form kept)
StateSays form (Some kept) room bytes NoText = LacksTexts kept
StateSays form (Some kept) room bytes NoRoom = HasTexts kept × (room < length (text_in form kept))
StateSays form (Some kept) room bytes Memory = HasTexts kept
StateSays form None room bytes Closed = Unit {0}
StateSays form _ room bytes _ = ⊥

-- giving the dump of a session's core, with room for this many bytes
abbrev pub DumpSays : Option Kept → ℕ → List ℕ → Status → Type 0
DumpSays (Some kept) room bytes Done = HasTexts kept × (bytes ≡ dump_text (dump_of kept.log.state))
DumpSays (Some kept) room bytes NoText = LacksTexts kept
DumpSays (Some kept) room bytes NoRoom = HasTexts kept × (room < length (dump_text (dump_of kept.log.state)))
DumpSays (Some kept) room bytes Memory = HasTexts kept
DumpSays None room bytes Closed = Unit {0}
DumpSays _ room bytes _ = ⊥

-- giving the digest of the text of a session's blank state, with room for this many bytes
abbrev pub BlankDigestSays : Option Kept → ℕ → List ℕ → Status → Type 0
BlankDigestSays (Some kept) room bytes Done = HasTexts kept × (bytes ≡ sha256 (text_in Blank kept))
BlankDigestSays (Some kept) room bytes NoText = LacksTexts kept
BlankDigestSays (Some kept) room bytes NoRoom = HasTexts kept × (room < 32)
BlankDigestSays (Some kept) room bytes Memory = HasTexts kept
BlankDigestSays None room bytes Closed = Unit {0}
BlankDigestSays _ room bytes _ = ⊥

-- asking a session by a line, as an actor or as nobody, for a reply into a buffer of this many bytes
abbrev pub CallSays : Option Actor → Option Kept → Option Kept → List ℕ → ℕ → List ℕ → Status → Type 0
CallSays asker (Some old) (Some new) line room bytes Done = IsAnswer asker old new line bytes
CallSays asker (Some old) new line room bytes NoRoom = (room < longest_reply) × (new ≡ Some old)
CallSays asker (Some old) new line room bytes (Ask fault) = (longest_reply ≤ room) × (new ≡ Some old) × IsUnanswered asker old line fault
CallSays asker None new line room bytes Closed = new ≡ None
CallSays asker _ _ line room bytes _ = ⊥

-- making a call by numbers and bytes, as an actor or as nobody, in a buffer of this many bytes; an answer is reported if a call is made
abbrev pub DoSays : Option Actor → Option Kept → Option Kept → Request → List ℕ → Answer → Answer → ℕ → List ℕ → Status → Type 0
DoSays asker (Some old) (Some new) request given before after room bytes Done = IsDone asker old new request given bytes after
DoSays asker (Some old) new request given before after room bytes NoRoom = (room < page_size) × (new ≡ Some old) × (after ≡ before)
DoSays asker (Some old) new request given before after room bytes NoSuchCall = (page_size ≤ room) × (new ≡ Some old) × (after ≡ before) × (requested request given ≡ None)
DoSays asker (Some old) new request given before after room bytes Memory = (page_size ≤ room) × (new ≡ Some old) × (after ≡ before)
DoSays asker (Some old) new request given before after room bytes (Ask fault) = (page_size ≤ room) × (new ≡ Some old) × (after ≡ before) × IsUndone asker old request given fault
DoSays asker None new request given before after room bytes Closed = (new ≡ None) × (after ≡ before)
DoSays asker _ _ _ _ _ _ _ _ _ = ⊥

-- a change of a frame's custody by the last call that was answered
abbrev pub ChangeSays : Option Kept → ℕ → Change → Change → Status → Type 0
ChangeSays (Some kept) number old new Done = option_map change_of (slice_get kept.changes number) ≡ Some new
ChangeSays (Some kept) number old new NoSuchChange = (slice_get kept.changes number ≡ None) × (new ≡ old)
ChangeSays None number old new Closed = new ≡ old
ChangeSays _ _ _ _ _ = ⊥

-- all these changes, at the front of a buffer, whose other places stay; their number is reported in any case
abbrev pub ChangesSays : Option Kept → List Change → List Change → ℕ → Status → Type 0
ChangesSays (Some kept) old new count Done = (count ≡ length kept.changes) × (count ≤ length old) × (take count new ≡ map change_of kept.changes) × (drop count new ≡ drop count old)
ChangesSays (Some kept) old new count NoRoom = (count ≡ length kept.changes) × (length old < count) × (new ≡ old)
ChangesSays None old new count Closed = (count ≡ 0) × (new ≡ old)
ChangesSays _ _ _ _ _ = ⊥

-- the custody of a frame
abbrev pub RecordSays : Option Kept → ℕ → Record → Record → Status → Type 0
RecordSays (Some kept) frame old new Done = (frame < kept.log.state.config.frames) × (new ≡ record_of (custody_at kept.log.state frame))
RecordSays (Some kept) frame old new NoSuchFrame = (kept.log.state.config.frames ≤ frame) × (new ≡ old)
RecordSays None frame old new Closed = new ≡ old
RecordSays _ _ _ _ _ = ⊥

-- the frame at a guest frame of a slot
abbrev pub FrameSays : Option Kept → ℕ → ℕ → ℕ → ℕ → Status → Type 0
FrameSays (Some kept) vm gfn old new Done = mapped_at kept.log.state vm gfn ≡ Some new
FrameSays (Some kept) vm gfn old new NoSuchFrame = (mapped_at kept.log.state vm gfn ≡ None) × (new ≡ old)
FrameSays None vm gfn old new Closed = new ≡ old
FrameSays _ _ _ _ _ _ = ⊥

-- the next frame of an owner
abbrev pub NextSays : Option Kept → ℕ → ℕ → ℕ → ℕ → ℕ → Status → Type 0
NextSays (Some kept) owner vm from old new Done = IsNextOf kept.log.state owner vm from new
NextSays (Some kept) owner vm from old new NoSuchFrame = HasNoneOf kept.log.state owner vm from × (new ≡ old)
NextSays None owner vm from old new Closed = new ≡ old
NextSays _ _ _ _ _ _ _ = ⊥

-- a session's sizes
pub record AreSizes (kept : Kept) (told : Sizes) : Type 0 where
  pub frames : told.frames ≡ kept.log.state.config.frames
  pub core : told.core ≡ kept.log.state.config.core
  pub host : told.host ≡ kept.log.state.config.host
  pub slots : told.slots ≡ slot_count kept.log.state.config
  pub left : told.left + length kept.log.entries ≡ call_limit

abbrev pub SizesSays : Option Kept → Sizes → Sizes → Status → Type 0
SizesSays (Some kept) old new Done = AreSizes kept new
SizesSays None old new Closed = new ≡ old
SizesSays _ _ _ _ = ⊥

-- giving a line of a session's trace in a form, with room for this many bytes
abbrev pub LineSays : Form → Option Kept → ℕ → ℕ → List ℕ → Status → Type 0
LineSays form (Some kept) number room bytes Done = slice_get (lines_in form kept) number ≡ Some bytes
LineSays form (Some kept) number room bytes NoSuchLine = slice_get (lines_in form kept) number ≡ None
LineSays form (Some kept) number room bytes NoRoom = (line : List ℕ) × (slice_get (lines_in form kept) number ≡ Some line) × (room < length line)
LineSays form (Some kept) number room bytes Memory = Unit {0}
LineSays form None number room bytes Closed = Unit {0}
LineSays form _ number room bytes _ = ⊥

-- giving the digest of a session's redacted trace, with room for this many bytes
abbrev pub DigestSays : Option Kept → ℕ → List ℕ → Status → Type 0
DigestSays (Some kept) room bytes Done = bytes ≡ sha256 (concat (redacted_lines kept))
DigestSays (Some kept) room bytes NoRoom = room < 32
DigestSays None room bytes Closed = Unit {0}
DigestSays _ room bytes _ = ⊥

-- beginning a session's next volume
abbrev pub TurnSays : Option Kept → Option Kept → Status → Type 0
TurnSays (Some old) new Done = new ≡ Some (turned old)
TurnSays (Some old) new Memory = new ≡ Some old
TurnSays None new Closed = new ≡ None
TurnSays _ _ _ = ⊥

-- ending a session
abbrev pub EndSays : Option Kept → Status → Type 0
EndSays (Some kept) Done = Unit {0}
EndSays None Closed = Unit {0}
EndSays _ _ = ⊥
