-- The notes that are chosen if nothing but changes is asked for, and their text.
use Rattle.std.proofs.Common.{ℕ, ◌≡◌, Bool, true, false, cond, List, [], ◌∷◌, ◌++◌, map, filter, length, Option, Some, None, refl, ap, ap₂, append_assoc, ◌∙◌}
use Rattle.std.specs.List.{flat_map}
use Rattle.std.proofs.lemmas.List.{length-map}
use Rattle.kc_types.specs.Configuration.{Configuration}
use Rattle.kc_types.specs.declared.custody.Change.{Change}
use Rattle.kc_types.specs.declared.custody.Event.{Event}
use Rattle.kc_types.specs.declared.custody.Event.TheVariants as event
use Rattle.kc_model.specs.Events.{changes_in}
use Rattle.kc_custody.specs.Selected.{is_for, selected}
use Rattle.kc_model.proofs.Custody.Events.{flat-changes}
use Rattle.kc_trace.specs.declared.custody_writer.Heading.{Heading}
use Rattle.kc_trace.specs.declared.volume_writer.VolumeEntry.{VolumeEntry}
use Rattle.kc_trace.specs.CustodyText.{change_line, event_line, line_of_change, line_of_event, placed_text, header_line, volumes_text, end_line, custody_text_of}
use Rattle.kc_trace.specs.RemarkText.{note_line, line_of_note, notes_text_of}
use Rattle.kc_html.specs.Html.{html_text_of}
use Rattle.kc_remarks.specs.declared.remark.Note.{Note}
use Rattle.kc_remarks.specs.declared.remark.Note.TheVariants as note
use Rattle.kc_remarks.specs.Remarks.{events_in}
use Rattle.kc_custody.specs.Chosen.{no_remarks, own_note, chosen}
use Rattle.kc_cli.specs.declared.account.Subject.{Subject}
use Rattle.kc_cli.specs.Ledgers.{framed_text, lined_text}

abbrev noted : Change → Note
noted change = note.Event (event.Change change)

all : (told : List Note) → chosen None no_remarks told ≡ map noted (changes_in (events_in told))
all [] = refl
all (note.Denied one ∷ more) = all more
all (note.Access one ∷ more) = all more
all (note.Event (event.Change change) ∷ more) = ap (λ (rest : List Note). noted change ∷ rest) (all more)
all (note.Event (event.Read v) ∷ more) = all more
all (note.Event (event.Write v) ∷ more) = all more

of-one : (v : ℕ) (told : List Note) → chosen (Some v) no_remarks told ≡ map noted (filter (is_for v) (changes_in (events_in told)))
of-one v [] = refl
of-one v (note.Denied one ∷ more) = of-one v more
of-one v (note.Access one ∷ more) = of-one v more
of-one v (note.Event (event.Change change) ∷ more) = by_test (is_for v change) _ _ (of-one v more)
  where
    by_test : (b : Bool) (rest : List Note) (changes : List Change) → map (own_note v) rest ≡ map noted changes → map (own_note v) (cond b (noted change ∷ rest) rest) ≡ map noted (cond b (change ∷ changes) changes)
    by_test true rest changes same = ap (λ (rest : List Note). noted change ∷ rest) same
    by_test false rest changes same = same
of-one v (note.Event (event.Read w) ∷ more) = of-one v more
of-one v (note.Event (event.Write w) ∷ more) = of-one v more

picked : (vm : Option ℕ) (told : List Note) → chosen vm no_remarks told ≡ map noted (selected vm (changes_in (events_in told)))
picked None told = all told
picked (Some v) told = of-one v told

abbrev placed_change : List VolumeEntry → Change → List ℕ
placed_change volumes change = placed_text volumes (line_of_change change) (change_line change)

abbrev placed_event : List VolumeEntry → Event → List ℕ
placed_event volumes event = placed_text volumes (line_of_event event) (event_line event)

abbrev placed_note : List VolumeEntry → Note → List ℕ
placed_note volumes note = placed_text volumes (line_of_note note) (note_line note)

lines : (volumes : List VolumeEntry) (changes : List Change) → flat_map (placed_note volumes) (map noted changes) ≡ flat_map (placed_change volumes) changes
lines volumes [] = refl
lines volumes (change ∷ more) = ap (λ (rest : List ℕ). placed_change volumes change ++ rest) (lines volumes more)

pub plain : (heading : Heading) (config : Configuration) (volumes : List VolumeEntry) (calls refused : ℕ) (vm : Option ℕ) (told : List Note) → notes_text_of heading config volumes calls refused (chosen vm no_remarks told) ≡ custody_text_of heading config volumes calls refused (selected vm (changes_in (events_in told)))
plain heading config volumes calls refused vm told =
    let changes = selected vm (changes_in (events_in told)) in
    ap (notes_text_of heading config volumes calls refused) (picked vm told)
    ∙ ap₂ (λ (body : List ℕ) (n : ℕ). header_line heading config ++ (volumes_text volumes ++ (body ++ end_line calls n refused))) (lines volumes changes) (length-map changes noted)

-- lines, between what comes before them and what comes after, are the text that has a line for each
pub framed_is_lined : {X : Type 0} (place : X → ℕ) (line : X → List ℕ) (subject : Subject) (xs : List X) (count : ℕ) (front end : List ℕ)
    → count ≡ length xs → front ≡ header_line subject.heading subject.config ++ volumes_text subject.volumes.items → end ≡ end_line subject.answered.calls count subject.answered.denials.total
    → framed_text place line front subject.volumes.items xs end ≡ lined_text place line subject xs
framed_is_lined place line subject xs count front end long before after =
    let last = end_line subject.answered.calls (length xs) subject.answered.denials.total in
    ap₂ (λ (front end : List ℕ). framed_text place line front subject.volumes.items xs end) before (after ∙ ap (λ n. end_line subject.answered.calls n subject.answered.denials.total) long)
    ∙ append_assoc (header_line subject.heading subject.config) (volumes_text subject.volumes.items) (flat_map (λ x. placed_text subject.volumes.items (place x) (line x)) xs ++ last)

-- the text of the changes among events, and that of notes
pub changes_text : (subject : Subject) (changes : List Change) (told : List Event) → told ≡ map event.Change changes
    → lined_text line_of_event event_line subject told ≡ custody_text_of subject.heading subject.config subject.volumes.items subject.answered.calls subject.answered.denials.total changes
changes_text subject changes told are =
    let volumes = subject.volumes.items in
    ap₂ (λ (body : List ℕ) (n : ℕ). header_line subject.heading subject.config ++ (volumes_text volumes ++ (body ++ end_line subject.answered.calls n subject.answered.denials.total)))
    (ap (flat_map (placed_event volumes)) are ∙ flat-changes (placed_event volumes) (placed_change volumes) (λ c. refl) changes) (ap length are ∙ length-map changes event.Change)

abbrev notes_text_by : Subject → List Note → List ℕ
notes_text_by subject told = notes_text_of subject.heading subject.config subject.volumes.items subject.answered.calls subject.answered.denials.total told

pub notes_text : (subject : Subject) (told wanted : List Note) → told ≡ wanted → lined_text line_of_note note_line subject told ≡ notes_text_by subject wanted
notes_text subject told wanted are = ap (notes_text_by subject) are

pub page_text : (subject : Subject) (told wanted : List Note) → told ≡ wanted → html_text_of (lined_text line_of_note note_line subject told) ≡ html_text_of (notes_text_by subject wanted)
page_text subject told wanted are = ap html_text_of (notes_text subject told wanted are)
