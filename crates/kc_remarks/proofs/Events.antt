-- What notes say: their events are the events of the calls, and so the changes among them are custody.
use Rattle.std.proofs.Common.{ℕ, ◌≡◌, ◌+◌, List, [], ◌∷◌, ◌++◌, map, refl, ap, ap₂, ◌∙◌, Option, Some, None}
use Rattle.std.specs.Option.{option_to_list}
use Rattle.std.proofs.lemmas.List.Elements.{filter_map-append}
use Rattle.kc_types.specs.declared.call.Call.{Call}
use Rattle.kc_types.specs.declared.call.Call.TheVariants.{HostRead, HostWrite}
use Rattle.kc_types.specs.declared.reply.Reply.{Reply}
use Rattle.kc_types.specs.declared.reply.Reply.TheVariants as reply
use Rattle.kc_types.specs.declared.custody.Event.{Event}
use Rattle.kc_types.specs.Slots.{vm_of}
use Rattle.kc_model.specs.State.{State}
use Rattle.kc_model.specs.Next.{next}
use Rattle.kc_model.specs.Custody.{custody}
use Rattle.kc_model.specs.Events.{events_by, events_from, events, changes_in}
use Rattle.kc_model.proofs.Custody.Events.{changes-of-events}
use Rattle.kc_remarks.specs.declared.remark.CallKind.{CallKind}
use Rattle.kc_remarks.specs.declared.remark.NamedFrame.{NamedFrame}
use Rattle.kc_remarks.specs.declared.remark.Note.TheVariants as note
use Rattle.kc_remarks.specs.Remarks.{access_at, access_to, read_told, write_told, remark_told, remark_by, named_by, notes_by, notes_from, notes, event_in, events_in}

events-of-events : (told : List Event) → events_in (map note.Event told) ≡ told
events-of-events [] = refl
events-of-events (event ∷ more) = ap (λ (rest : List Event). event ∷ rest) (events-of-events more)

of-access-at : (line : ℕ) (call : CallKind) (off len : ℕ) (named : NamedFrame) (vm : Option ℕ) → events_in (option_to_list (access_at line call off len named vm)) ≡ []
of-access-at line call off len named None = refl
of-access-at line call off len named (Some v) = refl

of-access : (line : ℕ) (call : CallKind) (off len : ℕ) (named : Option NamedFrame) → events_in (option_to_list (access_to line call off len named)) ≡ []
of-access line call off len None = refl
of-access line call off len (Some named) = of-access-at line call off len named (vm_of named.owner)

of-read : (line : ℕ) (named : Option NamedFrame) (call : Call) → events_in (option_to_list (read_told line named call)) ≡ []
of-read line named (HostRead f off len) = of-access line _ off len named
of-read line named _ = refl

of-write : (line : ℕ) (named : Option NamedFrame) (call : Call) → events_in (option_to_list (write_told line named call)) ≡ []
of-write line named (HostWrite f off bytes) = of-access line _ off _ named
of-write line named _ = refl

-- a remark is not an event
pub of-remark : (line : ℕ) (named : Option NamedFrame) (call : Call) (answer : Reply) → events_in (option_to_list (remark_told line named call answer)) ≡ []
of-remark line named call (reply.Refused reason) = refl
of-remark line named call (reply.Rejected image) = refl
of-remark line named call (reply.Data bytes) = of-read line named call
of-remark line named call reply.Done = of-write line named call
of-remark line named call _ = refl

of-call : (n : ℕ) (m : State) (call : Call) → events_in (notes_by n m call) ≡ events_by n m call
of-call n m call =
    filter_map-append event_in (option_to_list (remark_by n m call)) (map note.Event (events_by n m call))
    ∙ ap₂ ◌++◌ (of-remark n (named_by m call) call (next m call).0) (events-of-events (events_by n m call))

pub events-of-notes_from : (n : ℕ) (m : State) (calls : List Call) → events_in (notes_from n m calls) ≡ events_from n m calls
events-of-notes_from n m [] = refl
events-of-notes_from n m (call ∷ calls) =
    filter_map-append event_in (notes_by n m call) (notes_from (n + 1) (next m call).1 calls)
    ∙ ap₂ ◌++◌ (of-call n m call) (events-of-notes_from (n + 1) (next m call).1 calls)

-- the events among the notes of a trace are its events
pub events-of-notes : (m : State) (calls : List Call) → events_in (notes m calls) ≡ events m calls
events-of-notes m calls = events-of-notes_from _ m calls

-- and the changes among these its custody
pub changes-of-notes : (m : State) (calls : List Call) → changes_in (events_in (notes m calls)) ≡ custody m calls
changes-of-notes m calls = ap changes_in (events-of-notes m calls) ∙ changes-of-events m calls
