-- Notes on traces that differ only in bytes that do not count.
use Rattle.std.proofs.Common.{ℕ, ◌≡◌, ◌+◌, Bool, true, false, cond, nat_lt, List, [], ◌∷◌, ◌++◌, length, map, replicate, get_or, refl, sym, ap, ap₂, ◌∙◌, Option, Some, None}
use Rattle.std.proofs.lemmas.List.{length-replicate}
use Rattle.std.specs.FinMap as maps
use Rattle.std.specs.Option.{option_to_list}
use Rattle.kc_types.specs.Configuration.{Configuration}
use Rattle.kc_types.specs.declared.call.Call.{Call}
use Rattle.kc_types.specs.declared.call.Call.TheVariants.{Take, Give, HostFault, HostRead, HostWrite, RegisterVm, RegisterVcpu, SetBoot, Remap, Verify, Map, GuestRead, GuestWrite, Grant, Revoke, GrantRange, RevokeRange, Drop, Clear}
use Rattle.kc_types.specs.declared.reply.Reply.{Reply}
use Rattle.kc_types.specs.declared.reply.Reply.TheVariants as reply
use Rattle.kc_types.specs.declared.custody.Custody.{Custody}
use Rattle.kc_types.specs.declared.custody.Event.{Event}
use Rattle.kc_model.specs.State.{State, Slot, no_slot}
use Rattle.kc_model.specs.Next.{next}
use Rattle.kc_model.specs.Lawful.{IsLawful}
use Rattle.kc_model.specs.Custody.{first_line}
use Rattle.kc_model.specs.Redaction.{blanked, counts, redacted_in, redacted_reply, DifferInBytes, DifferInCalls, KeepsImages, all_frames, redacted}
use Rattle.kc_model.specs.Blanking.{blank_state, redacted_from}
use Rattle.kc_model.specs.State.{frame_at}
use Rattle.kc_model.proofs.Lawful.Keeps.{lawful-next}
use Rattle.kc_model.proofs.Redaction.AsView.{itself}
use Rattle.kc_model.proofs.Redaction.Traces.{pair}
use Rattle.kc_model.proofs.Redaction.Blank.{audited_blank, keeps-all, redacted-differ, wholly-differ}
use Rattle.kc_remarks.specs.declared.remark.CallKind.TheVariants as kind
use Rattle.kc_remarks.specs.declared.remark.NamedFrame.{NamedFrame}
use Rattle.kc_remarks.specs.declared.remark.Note.{Note}
use Rattle.kc_remarks.specs.declared.remark.Note.TheVariants as note
use Rattle.kc_remarks.specs.Remarks.{number_named, frame_named, named_by, access_to, remark_told, remark_by, notes_by, notes_from, notes}
use Rattle.kc_remarks.specs.Unread.{NotesShowNoBytes, NotesAreRedacted}

frame-alike : (kept : ℕ → Bool) (m n : State) (at : Option ℕ) → DifferInBytes kept m n → frame_named n at ≡ frame_named m at
frame-alike kept m n None differ = refl
frame-alike kept m n (Some f) differ = ap₂ (λ (c : Configuration) (y : Custody). cond (nat_lt f c.frames) (Some (record { frame = f; owner = y.owner; gfn = y.gfn })) None) differ.config (differ.frames f).custody

number-state : (m n : State) (call : Call) → n.slots ≡ m.slots → number_named n call ≡ number_named m call
number-state m n (GuestRead v c g off len) same = ap (λ (slots : List Slot). maps.get (get_or slots v no_slot).mapped g) same
number-state m n (GuestWrite v c g off bytes) same = ap (λ (slots : List Slot). maps.get (get_or slots v no_slot).mapped g) same
number-state m n (Grant v c g) same = ap (λ (slots : List Slot). maps.get (get_or slots v no_slot).mapped g) same
number-state m n (Revoke v c g) same = ap (λ (slots : List Slot). maps.get (get_or slots v no_slot).mapped g) same
number-state m n (GrantRange v c g k) same = ap (λ (slots : List Slot). maps.get (get_or slots v no_slot).mapped g) same
number-state m n (RevokeRange v c g k) same = ap (λ (slots : List Slot). maps.get (get_or slots v no_slot).mapped g) same
number-state m n (Drop v c g) same = ap (λ (slots : List Slot). maps.get (get_or slots v no_slot).mapped g) same
number-state m n _ same = refl

number-redacted : (kept : ℕ → Bool) (m : State) (call : Call) → number_named m (redacted_in kept m call) ≡ number_named m call
number-redacted kept m (HostWrite f off bytes) = refl
number-redacted kept m (GuestWrite v c g off bytes) = refl
number-redacted kept m _ = refl

as-long : (b : Bool) (bytes : List ℕ) → length (cond b bytes (blanked bytes)) ≡ length bytes
as-long true bytes = refl
as-long false bytes = length-replicate (length bytes) 0

guest-told : (line : ℕ) (named : Option NamedFrame) (v c g off : ℕ) (bytes : List ℕ) (answer : Reply) → remark_told line named (GuestWrite v c g off (blanked bytes)) answer ≡ remark_told line named (GuestWrite v c g off bytes) answer
guest-told line named v c g off bytes (reply.Refused r) = refl
guest-told line named v c g off bytes (reply.Rejected i) = refl
guest-told line named v c g off bytes (reply.Data told) = refl
guest-told line named v c g off bytes reply.Done = refl
guest-told line named v c g off bytes _ = refl

host-told : (line : ℕ) (named : Option NamedFrame) (f off : ℕ) (bytes others : List ℕ) (answer : Reply) → length others ≡ length bytes → remark_told line named (HostWrite f off others) answer ≡ remark_told line named (HostWrite f off bytes) answer
host-told line named f off bytes others (reply.Refused r) long = refl
host-told line named f off bytes others (reply.Rejected i) long = refl
host-told line named f off bytes others (reply.Data told) long = refl
host-told line named f off bytes others reply.Done long = ap (λ len. access_to line kind.HostWrite off len named) long
host-told line named f off bytes others _ long = refl

told-redacted : (kept : ℕ → Bool) (m : State) (line : ℕ) (named : Option NamedFrame) (call : Call) (answer : Reply) → remark_told line named (redacted_in kept m call) answer ≡ remark_told line named call answer
told-redacted kept m line named (HostWrite f off bytes) answer = host-told line named f off bytes _ answer (as-long _ bytes)
told-redacted kept m line named (GuestWrite v c g off bytes) answer = guest-told line named v c g off bytes answer
told-redacted kept m line named _ answer = refl

told-form : (line : ℕ) (named : Option NamedFrame) (call : Call) (answer : Reply) → remark_told line named call (redacted_reply answer) ≡ remark_told line named call answer
told-form line named call (reply.Data bytes) = refl
told-form line named call _ = refl

remark-same : (kept : ℕ → Bool) (line : ℕ) (m n : State) (call other : Call) → DifferInBytes kept m n → redacted_in kept m other ≡ redacted_in kept m call → redacted_reply (next n other).0 ≡ redacted_reply (next m call).0 → remark_by line n other ≡ remark_by line m call
remark-same kept line m n call other differ same form =
    let number : number_named n other ≡ number_named m call = number-state m n other differ.slots ∙ sym (number-redacted kept m other) ∙ ap (number_named m) same ∙ number-redacted kept m call in
    let named : named_by n other ≡ named_by m call = frame-alike kept m n (number_named n other) differ ∙ ap (frame_named m) number in
    ap (λ x. remark_told line x other (next n other).0) named
    ∙ (sym (told-form line (named_by m call) other (next n other).0) ∙ ap (remark_told line (named_by m call) other) form ∙ told-form line (named_by m call) other (next m call).0)
    ∙ (sym (told-redacted kept m line (named_by m call) other (next m call).0) ∙ ap (λ x. remark_told line (named_by m call) x (next m call).0) same ∙ told-redacted kept m line (named_by m call) call (next m call).0)

notes-same : (kept : ℕ → Bool) (line : ℕ) (m n : State) (calls others : List Call) → IsLawful m → IsLawful n → DifferInBytes kept m n → DifferInCalls kept m calls others → KeepsImages kept calls → notes_from line n others ≡ notes_from line m calls
notes-same kept line m n [] [] is other_is differ same keeps = refl
notes-same kept line m n [] (other ∷ others) is other_is differ same keeps = absurd same
notes-same kept line m n (call ∷ calls) [] is other_is differ same keeps = absurd same
notes-same kept line m n (call ∷ calls) (other ∷ others) is other_is differ same keeps =
    let here = pair kept m n call other is other_is differ same.0 keeps.0 in
    let first : notes_by line n other ≡ notes_by line m call = ap₂ (λ (r : Option Note) (e : List Event). option_to_list r ++ map note.Event e) (remark-same kept line m n call other differ same.0 here.answer.form) (here.told line) in
    ap₂ ◌++◌ first (notes-same kept (line + 1) (next m call).1 (next n other).1 calls others (lawful-next m call is) (lawful-next n other other_is) here.states same.1 keeps.1)

pub unread : (m : State) (calls : List Call) → IsLawful m → NotesShowNoBytes m calls
unread m calls is = λ kept n others other_is differ same keeps. notes-same kept first_line m n calls others is other_is differ same keeps

pub notes_redacted : (m : State) (calls : List Call) → IsLawful m → NotesAreRedacted m calls
notes_redacted m calls is =
    let blank = audited_blank m calls is in
    record {
      same = unread m calls is all_frames m (redacted calls) is (itself all_frames m) (redacted-differ m calls) (keeps-all calls);
      blank = unread m calls is all_frames (blank_state m) (redacted calls) blank.lawful blank.differs (redacted-differ m calls) (keeps-all calls);
      host = unread m calls is all_frames (blank_state m) (redacted_from m calls) blank.lawful blank.differs (wholly-differ m calls) (keeps-all calls);
    }
