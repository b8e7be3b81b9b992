-- What the engine of custody keeps of the notes on a trace: all of them, or their events, with the attempts at pages of VMs, if these are enough.
use Rattle.std.specs.Prelude.{◌≡◌, ◌<◌, ◌≤◌, ◌+◌, ◌^◌, ◌++◌, ◌||◌, ℕ, Bool, true, false, List, [], map, filter, length, take, Option, None, Some, is_some, IfSome, Result, Ok, Err}
use Rattle.std.specs.List.{flat_map}
use Rattle.std.specs.Io.KnownBytes.{Appends}
use Rattle.sha2.specs.declared.Sha256.{Sha256}
use Rattle.kc_types.specs.Configuration.{Configuration}
use Rattle.kc_types.specs.declared.call.Call.{Call}
use Rattle.kc_types.specs.declared.custody.Event.{Event}
use Rattle.kc_types.specs.declared.custody.Event.TheVariants as event
use Rattle.kc_remarks.specs.declared.remark.Note.{Note}
use Rattle.kc_remarks.specs.declared.remark.Note.TheVariants as note
use Rattle.kc_remarks.specs.Remarks.{notes, events_in}
use Rattle.kc_remarks.specs.Denials.{is_denied, Counts}
use Rattle.kc_remarks.specs.declared.attempt.Attempt.{Attempt}
use Rattle.kc_remarks.specs.Attempts.{attempts_in}
use Rattle.kc_model.specs.State.{State}
use Rattle.kc_model.specs.Next.{replies_from, state_after}
use Rattle.kc_model.specs.Custody.{first_line}
use Rattle.kc_model.specs.Lives.{lives, selected_lives}
use Rattle.kc_model.specs.Before.{events_before}
use Rattle.kc_model.specs.Events.{changes_in}
use Rattle.kc_custody.specs.Grown.{AreGrown}
use Rattle.kc_custody.specs.Growing.{HasRoom}
use Rattle.kc_custody.specs.Selected.{selected}
use Rattle.kc_custody.specs.Chosen.{no_remarks, chosen}
use Rattle.kc_redact.specs.Witness.{HasSeen}
use Rattle.kc_texts.specs.declared.source.Failed.{Failed}
use Rattle.kc_faults.specs.declared.fault.TextFault.{TextFault}
use Rattle.kc_faults.specs.declared.fault.TextFault.TheVariants as texts
use Rattle.kc_trace.specs.declared.custody_writer.Heading.{Heading}
use Rattle.kc_trace.specs.declared.volume_writer.VolumeEntry.{VolumeEntry}
use Rattle.kc_trace.specs.CustodyText.{header_line, volumes_text, placed_text, end_line, custody_text_of}
use Rattle.kc_trace.specs.SummaryText.{summary_text_of}
use Rattle.kc_trace.specs.RemarkText.{notes_text_of}
use Rattle.kc_texts.specs.declared.order.CustodyForm.{CustodyForm}
use Rattle.kc_texts.specs.declared.order.CustodyForm.TheVariants.{Changes, Summary, Picture, Html}
use Rattle.kc_html.specs.Html.{html_text_of}
use Rattle.kc_picture.specs.Foot.{HasFoot}
use Rattle.kc_trace.specs.declared.header.Header.{Header}
use Rattle.kc_trace.specs.Header.{has_head}
use Rattle.kc_cli.specs.Traced.{Traced, trace_named}
use Rattle.kc_cli.specs.Custody.{page_remarks}
use Rattle.kc_cli.specs.declared.account.Subject.{Subject}
use Rattle.kc_cli.specs.declared.account.Told.{Told}
use Rattle.kc_cli.specs.declared.lined.View.{View}
use Rattle.kc_cli.specs.declared.lined.View.TheVariants as views
use Rattle.kc_cli.specs.declared.ledger.Ledger.{Ledger}
use Rattle.kc_cli.specs.declared.ledger.Ledger.TheVariants as kept
use Rattle.kc_cli.specs.declared.telling.Kept.{Kept}

-- these notes on calls that begin in this state have no more events than can be counted
abbrev pub CanCount : State → List Note → Type 0
CanCount m told = HasRoom (events_before m ++ events_in told)

-- it keeps what this form is written of, for calls that begin in this state, of these notes on them
abbrev pub Keeps : CustodyForm → State → List Note → Ledger → Type 0
Keeps (Changes remarks) m told (kept.Changes events) = (remarks ≡ no_remarks) × (events.items ≡ events_in told)
Keeps (Changes remarks) m told (kept.Notes wanted notes) = (wanted ≡ remarks) × (notes.items ≡ told)
Keeps Summary m told (kept.Summary lives attempts) = AreGrown m.config.frames (events_before m ++ events_in told) lives × (attempts.items ≡ attempts_in told)
Keeps Picture m told (kept.Picture events) = events.items ≡ events_before m ++ events_in told
Keeps Picture m told (kept.VmPicture v before notes) = (before.items ≡ events_before m) × (notes.items ≡ told)
Keeps Html m told (kept.Html notes) = notes.items ≡ told
Keeps form m told ledger = ⊥

-- the events that it keeps, or that are among its notes
abbrev pub events_kept : Ledger → List Event
events_kept (kept.Changes events) = events.items
events_kept (kept.Notes wanted notes) = events_in notes.items
events_kept (kept.Summary lives attempts) = []
events_kept (kept.Picture events) = events.items
events_kept (kept.VmPicture v before notes) = before.items ++ events_in notes.items
events_kept (kept.Html notes) = events_in notes.items

-- the attempts at pages of VMs that it keeps beside events
abbrev pub attempts_kept : Ledger → List Attempt
attempts_kept (kept.Summary lives attempts) = attempts.items
attempts_kept _ = []

-- the events that a picture is of: the changes alone, if the machine's own accesses are not in the trace
abbrev pub reported : Bool → List Event → List Event
reported false told = told
reported true told = map event.Change (changes_in told)

-- the text that is given of what it keeps, by the numbers of calls and of those that were refused or rejected; of a picture's bytes only the foot
abbrev pub IsGiven : Option ℕ → Heading → Configuration → List VolumeEntry → ℕ → ℕ → Ledger → List ℕ → Type 0
IsGiven vm heading config volumes count refused (kept.Changes events) text = text ≡ custody_text_of heading config volumes count refused (selected vm (changes_in events.items))
IsGiven vm heading config volumes count refused (kept.Notes wanted notes) text = text ≡ notes_text_of heading config volumes count refused (chosen vm wanted notes.items)
IsGiven vm heading config volumes count refused (kept.Summary grown attempts) text = (frames : ℕ) (events : List Event) → AreGrown frames events grown → text ≡ summary_text_of heading config volumes count refused attempts.items (selected_lives vm (lives events))
IsGiven vm heading config volumes count refused (kept.Picture events) text = HasFoot heading text
IsGiven vm heading config volumes count refused (kept.VmPicture v before notes) text = HasFoot heading text
IsGiven vm heading config volumes count refused (kept.Html notes) text = text ≡ html_text_of (notes_text_of heading config volumes count refused (chosen vm (page_remarks heading.is_unseen) notes.items))

-- the same of what was kept of all calls
abbrev pub IsGivenOf : Option ℕ → Told → List ℕ → Type 0
IsGivenOf vm told text = IsGiven vm told.subject.heading told.subject.config told.subject.volumes.items told.subject.answered.calls told.subject.answered.denials.total told.ledger text

-- the sink took the text that is given of what was kept
abbrev pub GivesAccount : Option ℕ → Told → Option (List ℕ) → Option (List ℕ) → Type 0
GivesAccount vm told old new =
    (text : List ℕ) × IsGivenOf vm told text × Appends old new text

-- the same for a beginning of it
abbrev pub BeginsAccount : Option ℕ → Told → Option (List ℕ) → Option (List ℕ) → Type 0
BeginsAccount vm told old new =
    (text : List ℕ) × (n : ℕ) × IsGivenOf vm told text × Appends old new (take n text)

-- lines, each with its volume, between what comes before them and what comes after
abbrev pub framed_text : {X : Type 0} → (X → ℕ) → (X → List ℕ) → List ℕ → List VolumeEntry → List X → List ℕ → List ℕ
framed_text place line front volumes xs end = front ++ (flat_map (λ x. placed_text volumes (place x) (line x)) xs ++ end)

-- the text of custody that has a line for each of these
abbrev pub lined_text : {X : Type 0} → (X → ℕ) → (X → List ℕ) → Subject → List X → List ℕ
lined_text place line subject xs =
    header_line subject.heading subject.config ++ (volumes_text subject.volumes.items ++ (flat_map (λ x. placed_text subject.volumes.items (place x) (line x)) xs ++ end_line subject.answered.calls (length xs) subject.answered.denials.total))

-- the text as it is, or in a page for a browser
abbrev pub viewed : View → List ℕ → List ℕ
viewed views.Text text = text
viewed views.Page text = html_text_of text

-- the outcome of giving a text to a sink
abbrev pub written : Result (Unit {0}) Failed → Result (Unit {0}) TextFault
written (Ok given) = Ok given
written (Err failed) = Err texts.Write

-- a note that is not an event: of what was refused or served
abbrev pub is_remark : Note → Bool
is_remark (note.Event event) = false
is_remark _ = true

-- what is kept is of these calls, made from this state on, and the core is in the state after them
pub record HasKept (form : CustodyForm) (m : State) (calls : List Call) (core : State) (kept : Kept) : Type 0 where
  pub ledger : Keeps form m (notes m calls) kept.ledger
  pub line : kept.line ≡ first_line + length calls
  pub short : kept.line < 2 ^ 32
  pub left : core ≡ state_after m calls
  pub denied : kept.denials.total ≡ length (filter is_denied (notes m calls))
  pub few : kept.denials.total ≤ length calls
  pub counted : Counts (replies_from m calls) kept.denials
