-- What is kept of calls that come after others.
use Rattle.std.proofs.Common.{ℕ, ◌≡◌, ◌++◌, Bool, true, false, List, [], ◌∷◌, All, Option, Result, Ok, Err, subst, refl, ap, ap₂, sym, ◌∙◌, arith, append_assoc, append-nil}
use Rattle.std.specs.Prelude.{OnOk}
use Rattle.std.specs.Global.{Vec}
use Rattle.std.proofs.lemmas.List.Elements.{filter_map-append, All-nil, All-cons, All-append, All-head, All-tail}
use Rattle.kc_types.specs.declared.call.Call.{Call}
use Rattle.kc_types.specs.declared.slot.Phase.{Phase}
use Rattle.kc_types.specs.declared.custody.Change.{Change}
use Rattle.kc_types.specs.declared.custody.Change.TheVariants as change
use Rattle.kc_types.specs.declared.custody.Event.{Event}
use Rattle.kc_types.specs.declared.custody.Event.TheVariants as event
use Rattle.kc_model.proofs.Custody.Events.{changes-of-changes}
use Rattle.kc_custody.specs.Within.{IsWithin}
use Rattle.kc_custody.specs.Growing.{HasRoom}
use Rattle.kc_custody.specs.Grown.{AreGrown, NotesAll}
use Rattle.kc_custody.specs.declared.growing.Lives.{Lives}
use Rattle.kc_custody.proofs.Traced.{before-within, events-within}
use Rattle.kc_custody.proofs.Few.{room-before}
use Rattle.kc_types.specs.Configuration.{Configuration}
use Rattle.kc_model.specs.Lawful.{IsLawful}
use Rattle.kc_trace.specs.declared.custody_writer.Heading.{Heading}
use Rattle.kc_trace.specs.declared.volume_writer.VolumeEntry.{VolumeEntry}
use Rattle.kc_model.specs.State.{State}
use Rattle.kc_model.specs.Before.{events_before, lives_from}
use Rattle.kc_model.specs.Lives.{selected_lives}
use Rattle.kc_custody.specs.Chosen.{chosen}
use Rattle.kc_cli.proofs.Plain.{plain}
use Rattle.kc_model.specs.Events.{events_from, changes_in}
use Rattle.kc_custody.specs.Selected.{selected}
use Rattle.kc_trace.specs.CustodyText.{custody_text_of}
use Rattle.kc_trace.specs.SummaryText.{summary_text_of}
use Rattle.kc_trace.specs.RemarkText.{notes_text_of}
use Rattle.kc_remarks.specs.declared.remark.Note.{Note}
use Rattle.kc_remarks.specs.declared.remark.Remarks.{Remarks}
use Rattle.kc_remarks.specs.Remarks.{notes_from, event_in, events_in}
use Rattle.kc_remarks.specs.declared.attempt.Attempt.{Attempt}
use Rattle.kc_remarks.specs.Attempts.{AreInOrder, attempts_in}
use Rattle.kc_remarks.proofs.Events.{events-of-notes_from}
use Rattle.kc_remarks.proofs.Attempts.{both}
use Rattle.kc_texts.specs.declared.order.CustodyForm.{CustodyForm}
use Rattle.kc_texts.specs.declared.order.CustodyForm.TheVariants.{Changes, Summary, Picture, Html}
use Rattle.kc_cli.specs.declared.ledger.Ledger.TheVariants as kept
use Rattle.kc_cli.specs.declared.ledger.Ledger.{Ledger}
use Rattle.kc_picture.specs.Frames.{IsIn}
use Rattle.kc_html.specs.Html.{html_text_of}
use Rattle.kc_cli.specs.Custody.{IsAccount, page_remarks}
use Rattle.kc_cli.specs.Ledgers.{attempts_kept, CanCount, Keeps, events_kept, reported, IsGiven}

-- the events of notes that more are added to
events_more : (n : ℕ) (m : State) (calls : List Call) (told : List Note) (old new : List Event) → new ≡ old ++ events_from n m calls → old ≡ events_in told → new ≡ events_in (told ++ notes_from n m calls)
events_more n m calls told old new grown so_far =
    grown
    ∙ ap₂ (λ (xs ys : List Event). xs ++ ys) so_far (sym (events-of-notes_from n m calls))
    ∙ sym (filter_map-append event_in told (notes_from n m calls))

-- the same, after others
more_after : (before : List Event) (n : ℕ) (m : State) (calls : List Call) (told : List Note) (old new : List Event) → new ≡ old ++ events_from n m calls → old ≡ before ++ events_in told → new ≡ before ++ events_in (told ++ notes_from n m calls)
more_after before n m calls told old new grown so_far =
    grown
    ∙ ap (λ (xs : List Event). xs ++ events_from n m calls) so_far
    ∙ append_assoc before (events_in told) (events_from n m calls)
    ∙ ap (λ (xs : List Event). before ++ xs) (events_more n m calls told (events_in told) (events_in told ++ events_from n m calls) refl refl)

pub changes_grow : (n : ℕ) (m : State) (calls : List Call) (old new : Vec Event) → new.items ≡ old.items ++ events_from n m calls
    → (form : CustodyForm) (start : State) (told : List Note) → Keeps form start told (kept.Changes old) → Keeps form start (told ++ notes_from n m calls) (kept.Changes new)
changes_grow n m calls old new grown (Changes remarks) start told h = (h.0, events_more n m calls told old.items new.items grown h.1)
changes_grow n m calls old new grown Summary start told h = h
changes_grow n m calls old new grown Picture start told h = h
changes_grow n m calls old new grown Html start told h = h

pub on_ok_both : {T E : Type 0} (P Q : Type 0) (r : Result T E) → OnOk r P → OnOk r Q → OnOk r (P × Q)
on_ok_both P Q (Ok x) p q = (p, q)
on_ok_both P Q (Err e) p q = tt

-- lives that have grown by the events of calls
pub summary_grows : (n : ℕ) (m : State) (calls : List Call) (old new : Lives) (before after : Vec Attempt)
    → NotesAll (events_from n m calls) old new → after.items ≡ before.items ++ attempts_in (notes_from n m calls) → (form : CustodyForm) (start : State) (told : List Note) → m.config ≡ start.config → CanCount start (told ++ notes_from n m calls)
    → Keeps form start told (kept.Summary old before) → Keeps form start (told ++ notes_from n m calls) (kept.Summary new after)
summary_grows n m calls old new before after grown tried (Changes remarks) start told same room h = h
summary_grows n m calls old new before after grown tried Summary start told same room h =
    let so_far = events_before start ++ events_in told in
    let all = more_after (events_before start) n m calls told so_far (so_far ++ events_from n m calls) refl refl in (
      subst (λ (told : List Event). AreGrown start.config.frames told new) all (grown start.config.frames so_far (subst (λ (c : Configuration). All (IsWithin c.frames) (events_from n m calls)) same (events-within n m calls)) (subst HasRoom (sym all) room) h.0),
      tried ∙ ap (λ (xs : List Attempt). xs ++ attempts_in (notes_from n m calls)) h.1 ∙ sym (both told (notes_from n m calls)),
    )
summary_grows n m calls old new before after grown tried Picture start told same room h = h
summary_grows n m calls old new before after grown tried Html start told same room h = h

-- lives that have grown by what is so before the first call
pub summary_begins : (m : State) (none begun : Lives) → IsLawful m → AreGrown m.config.frames [] none → NotesAll (events_before m) none begun → AreGrown m.config.frames (events_before m ++ []) begun
summary_begins m none begun is fresh grown =
    subst (λ (told : List Event). AreGrown m.config.frames told begun) (sym (append-nil (events_before m))) (grown m.config.frames [] (before-within m) (room-before m is) fresh)

pub picture_grows : (n : ℕ) (m : State) (calls : List Call) (old new : Vec Event) → new.items ≡ old.items ++ events_from n m calls
    → (form : CustodyForm) (start : State) (told : List Note) → Keeps form start told (kept.Picture old) → Keeps form start (told ++ notes_from n m calls) (kept.Picture new)
picture_grows n m calls old new grown (Changes remarks) start told h = h
picture_grows n m calls old new grown Summary start told h = h
picture_grows n m calls old new grown Picture start told h = more_after (events_before start) n m calls told old.items new.items grown h
picture_grows n m calls old new grown Html start told h = h

pub vm_picture_grows : (n : ℕ) (m : State) (calls : List Call) (v : ℕ) (before : Vec Event) (old new : Vec Note) → new.items ≡ old.items ++ notes_from n m calls
    → (form : CustodyForm) (start : State) (told : List Note) → Keeps form start told (kept.VmPicture v before old) → Keeps form start (told ++ notes_from n m calls) (kept.VmPicture v before new)
vm_picture_grows n m calls v before old new grown (Changes remarks) start told h = h
vm_picture_grows n m calls v before old new grown Summary start told h = h
vm_picture_grows n m calls v before old new grown Picture start told h = (h.0, grown ∙ ap (λ (xs : List Note). xs ++ notes_from n m calls) h.1)
vm_picture_grows n m calls v before old new grown Html start told h = h

pub html_grows : (n : ℕ) (m : State) (calls : List Call) (old new : Vec Note) → new.items ≡ old.items ++ notes_from n m calls
    → (form : CustodyForm) (start : State) (told : List Note) → Keeps form start told (kept.Html old) → Keeps form start (told ++ notes_from n m calls) (kept.Html new)
html_grows n m calls old new grown (Changes remarks) start told h = h
html_grows n m calls old new grown Summary start told h = h
html_grows n m calls old new grown Picture start told h = h
html_grows n m calls old new grown Html start told h = grown ∙ ap (λ (xs : List Note). xs ++ notes_from n m calls) h

-- events before others are within a machine if both are
both_within : (frames : ℕ) (before more kept : List Event) → All (IsWithin frames) before → All (IsWithin frames) more → kept ≡ before ++ more → All (IsWithin frames) kept
both_within frames before more kept before_is is same = subst (All (IsWithin frames)) (sym same) (All-append (IsWithin frames) before more before_is is)

-- the events that are kept are within a machine if those before the first call and those of the notes are
pub kept_within : (frames : ℕ) (form : CustodyForm) (m : State) (told : List Note) (ledger : Ledger) → Keeps form m told ledger → All (IsWithin frames) (events_before m) → All (IsWithin frames) (events_in told) → All (IsWithin frames) (events_kept ledger)
kept_within frames (Changes remarks) m told (kept.Changes events) h before_is is = subst (All (IsWithin frames)) (sym h.1) is
kept_within frames (Changes remarks) m told (kept.Notes wanted notes) h before_is is = subst (λ (xs : List Note). All (IsWithin frames) (events_in xs)) (sym h.1) is
kept_within frames (Changes remarks) m told (kept.Summary events attempts) h before_is is = absurd h
kept_within frames (Changes remarks) m told (kept.Picture events) h before_is is = absurd h
kept_within frames (Changes remarks) m told (kept.VmPicture v before notes) h before_is is = absurd h
kept_within frames (Changes remarks) m told (kept.Html notes) h before_is is = absurd h
kept_within frames Summary m told (kept.Changes events) h before_is is = absurd h
kept_within frames Summary m told (kept.Notes wanted notes) h before_is is = absurd h
kept_within frames Summary m told (kept.Summary grown attempts) h before_is is = All-nil (IsWithin frames)
kept_within frames Summary m told (kept.Picture events) h before_is is = absurd h
kept_within frames Summary m told (kept.VmPicture v before notes) h before_is is = absurd h
kept_within frames Summary m told (kept.Html notes) h before_is is = absurd h
kept_within frames Picture m told (kept.Changes events) h before_is is = absurd h
kept_within frames Picture m told (kept.Notes wanted notes) h before_is is = absurd h
kept_within frames Picture m told (kept.Summary events attempts) h before_is is = absurd h
kept_within frames Picture m told (kept.Picture events) h before_is is = both_within frames _ _ _ before_is is h
kept_within frames Picture m told (kept.VmPicture v before notes) h before_is is = both_within frames _ _ _ before_is is (ap₂ (λ (xs : List Event) (ys : List Note). xs ++ events_in ys) h.0 h.1)
kept_within frames Picture m told (kept.Html notes) h before_is is = absurd h
kept_within frames Html m told (kept.Changes events) h before_is is = absurd h
kept_within frames Html m told (kept.Notes wanted notes) h before_is is = absurd h
kept_within frames Html m told (kept.Summary events attempts) h before_is is = absurd h
kept_within frames Html m told (kept.Picture events) h before_is is = absurd h
kept_within frames Html m told (kept.VmPicture v before notes) h before_is is = absurd h
kept_within frames Html m told (kept.Html notes) h before_is is = subst (λ (xs : List Note). All (IsWithin frames) (events_in xs)) (sym h) is

-- so their changes are of frames that there are
pub changes_within : (frames : ℕ) (told : List Event) → All (IsWithin frames) told → All (IsIn frames) (changes_in told)
changes_within frames [] is = All-nil (IsIn frames)
changes_within frames (event.Change (change.Frame told) ∷ more) is = All-cons (IsIn frames) (change.Frame told) (changes_in more) (All-head (IsWithin frames) (event.Change (change.Frame told)) more is) (changes_within frames more (All-tail (IsWithin frames) (event.Change (change.Frame told)) more is))
changes_within frames (event.Change (change.Phase told) ∷ more) is = All-cons (IsIn frames) (change.Phase told) (changes_in more) tt (changes_within frames more (All-tail (IsWithin frames) (event.Change (change.Phase told)) more is))
changes_within frames (event.Read v ∷ more) is = changes_within frames more (All-tail (IsWithin frames) (event.Read v) more is)
changes_within frames (event.Write v ∷ more) is = changes_within frames more (All-tail (IsWithin frames) (event.Write v) more is)

no_attempts : AreInOrder []
no_attempts i j d le lt = absurd (omega (arith, lt))

-- the attempts that are kept are in order if those of the notes are
pub kept_in_order : (form : CustodyForm) (m : State) (told : List Note) (ledger : Ledger) → Keeps form m told ledger → AreInOrder (attempts_in told) → AreInOrder (attempts_kept ledger)
kept_in_order form m told (kept.Changes events) h order = no_attempts
kept_in_order form m told (kept.Notes wanted notes) h order = no_attempts
kept_in_order form m told (kept.Picture events) h order = no_attempts
kept_in_order form m told (kept.VmPicture v before notes) h order = no_attempts
kept_in_order form m told (kept.Html notes) h order = no_attempts
kept_in_order Summary m told (kept.Summary events attempts) h order = subst AreInOrder (sym h.1) order
kept_in_order (Changes remarks) m told (kept.Summary events attempts) h order = absurd h
kept_in_order Picture m told (kept.Summary events attempts) h order = absurd h
kept_in_order Html m told (kept.Summary events attempts) h order = absurd h

-- what is given of what is kept is the account of the notes
pub account_given : (form : CustodyForm) (vm : Option ℕ) (heading : Heading) (m : State) (volumes : List VolumeEntry) (count refused : ℕ) (told : List Note) (ledger : Ledger) (text : List ℕ) → Keeps form m told ledger → IsGiven vm heading m.config volumes count refused ledger text → IsAccount form vm heading m volumes count refused told text
account_given (Changes remarks) vm heading m volumes count refused told (kept.Changes events) text h given =
    given
    ∙ ap (λ (xs : List Event). custody_text_of heading m.config volumes count refused (selected vm (changes_in xs))) h.1
    ∙ sym (plain heading m.config volumes count refused vm told)
    ∙ ap (λ (r : Remarks). notes_text_of heading m.config volumes count refused (chosen vm r told)) (sym h.0)
account_given (Changes remarks) vm heading m volumes count refused told (kept.Notes wanted notes) text h given = given ∙ ap₂ (λ (r : Remarks) (xs : List Note). notes_text_of heading m.config volumes count refused (chosen vm r xs)) h.0 h.1
account_given (Changes remarks) vm heading m volumes count refused told (kept.Summary events attempts) text h given = absurd h
account_given (Changes remarks) vm heading m volumes count refused told (kept.Picture events) text h given = absurd h
account_given (Changes remarks) vm heading m volumes count refused told (kept.VmPicture v before notes) text h given = absurd h
account_given (Changes remarks) vm heading m volumes count refused told (kept.Html notes) text h given = absurd h
account_given Summary vm heading m volumes count refused told (kept.Changes events) text h given = absurd h
account_given Summary vm heading m volumes count refused told (kept.Notes wanted notes) text h given = absurd h
account_given Summary vm heading m volumes count refused told (kept.Summary grown attempts) text h given =
    given m.config.frames (events_before m ++ events_in told) h.0
    ∙ ap (λ (xs : List Attempt). summary_text_of heading m.config volumes count refused xs (selected_lives vm (lives_from m (events_in told)))) h.1
account_given Summary vm heading m volumes count refused told (kept.Picture events) text h given = absurd h
account_given Summary vm heading m volumes count refused told (kept.VmPicture v before notes) text h given = absurd h
account_given Summary vm heading m volumes count refused told (kept.Html notes) text h given = absurd h
account_given Picture vm heading m volumes count refused told (kept.Changes events) text h given = absurd h
account_given Picture vm heading m volumes count refused told (kept.Notes wanted notes) text h given = absurd h
account_given Picture vm heading m volumes count refused told (kept.Summary events attempts) text h given = absurd h
account_given Picture vm heading m volumes count refused told (kept.Picture events) text h given = given
account_given Picture vm heading m volumes count refused told (kept.VmPicture v before notes) text h given = given
account_given Picture vm heading m volumes count refused told (kept.Html notes) text h given = absurd h
account_given Html vm heading m volumes count refused told (kept.Changes events) text h given = absurd h
account_given Html vm heading m volumes count refused told (kept.Notes wanted notes) text h given = absurd h
account_given Html vm heading m volumes count refused told (kept.Summary events attempts) text h given = absurd h
account_given Html vm heading m volumes count refused told (kept.Picture events) text h given = absurd h
account_given Html vm heading m volumes count refused told (kept.VmPicture v before notes) text h given = absurd h
account_given Html vm heading m volumes count refused told (kept.Html notes) text h given = given ∙ ap (λ (xs : List Note). html_text_of (notes_text_of heading m.config volumes count refused (chosen vm (page_remarks heading.is_unseen) xs))) h

-- the changes among the events that a picture is of are the same
pub changes_reported : (unseen : Bool) (told : List Event) → changes_in (reported unseen told) ≡ changes_in told
changes_reported false told = refl
changes_reported true told = changes-of-changes (changes_in told)
