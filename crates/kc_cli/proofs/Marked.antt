-- Notes as events and remarks, and the marks of remarks.
use Rattle.std.proofs.Common.{ℕ, ◌≡◌, ◌++◌, Bool, true, false, cond, List, [], ◌∷◌, map, filter, Some, refl, ap, sym, ◌∙◌, append-nil}
use Rattle.std.proofs.lemmas.List.Elements.{filter_map-append, filter-append}
use Rattle.kc_custody.specs.Selected.{is_selected}
use Rattle.kc_custody.specs.Chosen.{is_chosen, own_note, chosen}
use Rattle.kc_remarks.specs.declared.remark.Denied.{Denied}
use Rattle.kc_remarks.specs.declared.remark.Access.{Access}
use Rattle.kc_remarks.specs.declared.remark.Note.{Note}
use Rattle.kc_remarks.specs.declared.remark.Note.TheVariants as note
use Rattle.kc_remarks.specs.declared.remark.Remarks.{Remarks}
use Rattle.kc_remarks.specs.Remarks.{event_in, events_in}
use Rattle.kc_types.specs.declared.custody.Event.{Event}
use Rattle.kc_picture.specs.Marks.{mark_of, marks}
use Rattle.kc_cli.specs.Ledgers.{is_remark}

-- a note that is chosen from one list or from another
chosen_too : (v : ℕ) (b : Bool) (x : Note) (xs ys : List Note) → marks (map (own_note v) xs) ≡ marks (map (own_note v) ys) → marks (map (own_note v) (cond b (x ∷ xs) xs)) ≡ marks (map (own_note v) (cond b (x ∷ ys) ys))
chosen_too v true x xs ys same =
    filter_map-append mark_of (own_note v x ∷ []) (map (own_note v) xs) ∙ ap (λ rest. marks (own_note v x ∷ []) ++ rest) same ∙ sym (filter_map-append mark_of (own_note v x ∷ []) (map (own_note v) ys))
chosen_too v false x xs ys same = same

-- an event has no mark
unmarked : (v : ℕ) (b : Bool) (xs ys zs : List Note) → marks (map (own_note v) zs) ≡ marks (map (own_note v) ys) → marks (map (own_note v) xs) ≡ marks (map (own_note v) ys) → marks (map (own_note v) xs) ≡ marks (map (own_note v) (cond b zs ys))
unmarked v true xs ys zs none same = same ∙ sym none
unmarked v false xs ys zs none same = same

-- what is chosen of the remarks among notes has the marks of what is chosen of the notes
pub marks_of_remarks : (v : ℕ) (remarks : Remarks) (told : List Note) → marks (chosen (Some v) remarks (filter is_remark told)) ≡ marks (chosen (Some v) remarks told)
marks_of_remarks v remarks [] = refl
marks_of_remarks v remarks (note.Denied one ∷ more) = chosen_too v (is_chosen (Some v) remarks (note.Denied one)) (note.Denied one) _ _ (marks_of_remarks v remarks more)
marks_of_remarks v remarks (note.Access one ∷ more) = chosen_too v (is_chosen (Some v) remarks (note.Access one)) (note.Access one) _ _ (marks_of_remarks v remarks more)
marks_of_remarks v remarks (note.Event one ∷ more) =
    let picked : List Note → List Note = λ told. filter (is_chosen (Some v) remarks) told in
    unmarked v (is_selected (Some v) one) (picked (filter is_remark more)) (picked more) (note.Event one ∷ picked more) refl (marks_of_remarks v remarks more)

event_added : (told : List Note) (x : Note) → events_in (told ++ x ∷ []) ≡ events_in told ++ events_in (x ∷ [])
event_added told x = filter_map-append event_in told (x ∷ [])

remark_added : (told : List Note) (x : Note) → filter is_remark (told ++ x ∷ []) ≡ filter is_remark told ++ filter is_remark (x ∷ [])
remark_added told x = filter-append is_remark told (x ∷ [])

-- the events and the remarks of notes are these
abbrev pub AreParts : List Note → List Event → List Note → Type 0
AreParts told events remarks = (events ≡ events_in told) × (remarks ≡ filter is_remark told)

-- an event after others, a remark after others
pub one_event : (told : List Note) (x : Note) (e : Event) (events : List Event) (remarks : List Note) → x ≡ note.Event e → AreParts told events remarks → AreParts (told ++ x ∷ []) (events ++ e ∷ []) remarks
one_event told x e events remarks is so_far = rw is (
  ap (λ (es : List Event). es ++ e ∷ []) so_far.0 ∙ sym (event_added told (note.Event e)),
  so_far.1 ∙ sym (append-nil (filter is_remark told)) ∙ sym (remark_added told (note.Event e)),
)

pub one_denied : (told : List Note) (x : Note) (one : Denied) (events : List Event) (remarks : List Note) → x ≡ note.Denied one → AreParts told events remarks → AreParts (told ++ x ∷ []) events (remarks ++ note.Denied one ∷ [])
one_denied told x one events remarks is so_far = rw is (
  so_far.0 ∙ sym (append-nil (events_in told)) ∙ sym (event_added told (note.Denied one)),
  ap (λ (rs : List Note). rs ++ note.Denied one ∷ []) so_far.1 ∙ sym (remark_added told (note.Denied one)),
)

pub one_access : (told : List Note) (x : Note) (one : Access) (events : List Event) (remarks : List Note) → x ≡ note.Access one → AreParts told events remarks → AreParts (told ++ x ∷ []) events (remarks ++ note.Access one ∷ [])
one_access told x one events remarks is so_far = rw is (
  so_far.0 ∙ sym (append-nil (events_in told)) ∙ sym (event_added told (note.Access one)),
  ap (λ (rs : List Note). rs ++ note.Access one ∷ []) so_far.1 ∙ sym (remark_added told (note.Access one)),
)
