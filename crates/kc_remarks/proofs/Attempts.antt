-- The attempts among the notes on calls.
use Rattle.std.proofs.Common.{ℕ, ◌≡◌, ◌<◌, ◌+◌, List, [], ◌∷◌, ◌++◌, map, take, length, get_or, Option, Some, None, refl, sym, ap, ap₂, ◌∙◌, append_assoc, append-nil}
use Rattle.std.specs.Option.{option_to_list}
use Rattle.std.proofs.lemmas.List.Elements.{filter_map-append}
use Rattle.kc_types.specs.declared.call.Call.{Call}
use Rattle.kc_types.specs.declared.call.Call.TheVariants.{HostRead, HostWrite}
use Rattle.kc_types.specs.declared.refusal.Refusal.{Refusal}
use Rattle.kc_types.specs.declared.reply.Reply.{Reply}
use Rattle.kc_types.specs.declared.reply.Reply.TheVariants as reply
use Rattle.kc_types.specs.declared.custody.Event.{Event}
use Rattle.kc_types.specs.Slots.{slot_of, vm_of}
use Rattle.kc_model.specs.State.{State}
use Rattle.kc_model.specs.Next.{next, state_after}
use Rattle.kc_model.specs.Events.{events_by}
use Rattle.kc_remarks.specs.declared.attempt.Attempt.{Attempt}
use Rattle.kc_remarks.specs.declared.remark.CallKind.{CallKind}
use Rattle.kc_remarks.specs.declared.remark.NamedFrame.{NamedFrame}
use Rattle.kc_remarks.specs.declared.remark.Note.{Note}
use Rattle.kc_remarks.specs.declared.remark.Note.TheVariants as note
use Rattle.kc_remarks.specs.declared.remark.Denial.TheVariants as denial
use Rattle.kc_remarks.specs.Remarks.{kind_of, access_at, access_to, read_told, write_told, remark_told, remark_by, named_by, notes_by, notes_from}
use Rattle.kc_remarks.specs.Attempts.{attempt_on, attempt_told, attempt_in, attempts_in}
use Rattle.kc_remarks.proofs.Runs.{notes-more}

none-of-events : (told : List Event) → attempts_in (map note.Event told) ≡ []
none-of-events [] = refl
none-of-events (event ∷ more) = none-of-events more

of-access-at : (line : ℕ) (call : CallKind) (off len : ℕ) (named : NamedFrame) (vm : Option ℕ) → attempts_in (option_to_list (access_at line call off len named vm)) ≡ []
of-access-at line call off len named None = refl
of-access-at line call off len named (Some v) = refl

of-access : (line : ℕ) (call : CallKind) (off len : ℕ) (named : Option NamedFrame) → attempts_in (option_to_list (access_to line call off len named)) ≡ []
of-access line call off len None = refl
of-access line call off len (Some named) = of-access-at line call off len named (vm_of named.owner)

of-read : (line : ℕ) (named : Option NamedFrame) (call : Call) → attempts_in (option_to_list (read_told line named call)) ≡ []
of-read line named (HostRead f off len) = of-access line _ off len named
of-read line named _ = refl

of-write : (line : ℕ) (named : Option NamedFrame) (call : Call) → attempts_in (option_to_list (write_told line named call)) ≡ []
of-write line named (HostWrite f off bytes) = of-access line _ off _ named
of-write line named _ = refl

-- one note has its own attempt
one : (told : Note) → attempts_in (told ∷ []) ≡ option_to_list (attempt_in told)
one told = by_case (attempt_in told) refl
  where
    by_case : (found : Option Attempt) → attempt_in told ≡ found → attempts_in (told ∷ []) ≡ option_to_list found
    by_case None is = rw is refl
    by_case (Some attempt) is = rw is refl

of-remark : (line : ℕ) (named : Option NamedFrame) (call : Call) (answer : Reply) → attempts_in (option_to_list (remark_told line named call answer)) ≡ option_to_list (attempt_told line named answer)
of-remark line named call (reply.Refused reason) = one (note.Denied (record { line = line; call = kind_of call; reason = denial.Refused reason; slot = slot_of call; named = named; foreign = None }))
of-remark line named call (reply.Rejected image) = refl
of-remark line named call (reply.Data bytes) = of-read line named call
of-remark line named call reply.Done = of-write line named call
of-remark line named call _ = refl

-- the attempt that a call is
pub of-call : (n : ℕ) (m : State) (call : Call) → attempts_in (notes_by n m call) ≡ option_to_list (attempt_told n (named_by m call) (next m call).0)
of-call n m call =
    filter_map-append attempt_in (option_to_list (remark_by n m call)) (map note.Event (events_by n m call))
    ∙ ap₂ ◌++◌ (of-remark n (named_by m call) call (next m call).0) (none-of-events (events_by n m call))
    ∙ append-nil _

-- after those of other notes
pub both : (told more : List Note) → attempts_in (told ++ more) ≡ attempts_in told ++ attempts_in more
both told more = filter_map-append attempt_in told more

-- those of one call more, after those before
pub attempts-more : (n : ℕ) (m old : State) (calls : List Call) (i : ℕ) (call : Call) (before so_far now : List Attempt) → i < length calls → call ≡ get_or calls i call
    → so_far ≡ before ++ attempts_in (notes_from n m (take i calls)) → old ≡ state_after m (take i calls) → now ≡ so_far ++ attempts_in (notes_by (n + i) old call) → now ≡ before ++ attempts_in (notes_from n m (take (i + 1) calls))
attempts-more n m old calls i call before so_far now lt is told from added =
    let earlier = attempts_in (notes_from n m (take i calls)) in
    added
    ∙ ap (λ (xs : List Attempt). xs ++ attempts_in (notes_by (n + i) old call)) told
    ∙ append_assoc before earlier (attempts_in (notes_by (n + i) old call))
    ∙ ap (λ (s : State). before ++ (earlier ++ attempts_in (notes_by (n + i) s call))) from
    ∙ ap (λ (xs : List Attempt). before ++ xs) (sym (ap attempts_in (notes-more n m calls i call lt is) ∙ both (notes_from n m (take i calls)) (notes_by (n + i) (state_after m (take i calls)) call)))
