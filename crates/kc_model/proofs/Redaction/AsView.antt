-- Bytes that decide nothing are bytes that do not count: active VMs hide all guest frames.
use Rattle.std.proofs.Common.{ℕ, ◌≡◌, ◌<◌, ◌⊎◌, inl, inr, Bool, true, false, cond, not, ◌&&◌, List, [], ◌∷◌, length, Option, None, Some, refl, sym, ap, subst, ◌∙◌}
use Rattle.std.proofs.lemmas.Bool.{cases_Bool}
use Rattle.std.proofs.lemmas.List.{length-replicate}
use Rattle.kc_types.specs.declared.call.Call.{Call}
use Rattle.kc_types.specs.declared.call.Call.TheVariants.{HostWrite, GuestWrite}
use Rattle.kc_types.specs.declared.reply.Reply.{Reply}
use Rattle.kc_types.specs.declared.owner.Owner.{Owner}
use Rattle.kc_types.specs.declared.owner.Owner.TheVariants.{Core, Host, Free, Vm}
use Rattle.kc_model.specs.State.{State, frame_at}
use Rattle.kc_model.specs.Refusals.{refusal, is_active}
use Rattle.kc_model.specs.Lawful.{IsLawful}
use Rattle.kc_model.specs.Redaction.{blanked, redacted_in, counts, AreAlike, DifferInBytes, IsSameReply}
use Rattle.kc_model.proofs.Refusals.Served.{host_access-served}
use Rattle.kc_model.proofs.Lawful.GuestCalls.{guest_access-served, owner-mapped}
use Rattle.kc_model.proofs.Views.Alike.{View, sees, seen, Alike, differ-itself, differ-back, differ-then}
use Rattle.kc_model.proofs.Views.Steps.{IsView, bytes_of, with_bytes, touched, MayWrite, IsReply}
use Rattle.kc_model.proofs.Views.Calls.{of-one-form}

abbrev pub view_of : (ℕ → Bool) → View
view_of kept = record { kept = kept; hides = λ v gfn. true }

pub is_view : (kept : ℕ → Bool) → IsView (view_of kept)
is_view kept f v g = inr refl

pub seen-is : (kept : ℕ → Bool) (m : State) (f : ℕ) (owner : Owner) (gfn : Option ℕ) → sees (view_of kept) m f owner gfn ≡ counts kept m f owner
seen-is kept m f Core gfn = refl
seen-is kept m f Host gfn = refl
seen-is kept m f Free gfn = refl
seen-is kept m f (Vm v) gfn = refl

pub to-view : (kept : ℕ → Bool) (m n : State) → DifferInBytes kept m n → Alike (view_of kept) m n
to-view kept m n differ = record {
  config = differ.config;
  free = differ.free;
  slots = differ.slots;
  number = differ.number;
  frames = λ f. subst (λ b. AreAlike b (frame_at m f) (frame_at n f)) (sym (seen-is kept m f (frame_at m f).owner (frame_at m f).gfn)) (differ.frames f);
}

pub from-view : (kept : ℕ → Bool) (m n : State) → Alike (view_of kept) m n → DifferInBytes kept m n
from-view kept m n alike = record {
  config = alike.config;
  free = alike.free;
  slots = alike.slots;
  number = alike.number;
  frames = λ f. subst (λ b. AreAlike b (frame_at m f) (frame_at n f)) (seen-is kept m f (frame_at m f).owner (frame_at m f).gfn) (alike.frames f);
}

pub itself : (kept : ℕ → Bool) (m : State) → DifferInBytes kept m m
itself kept m = from-view kept m m (differ-itself (view_of kept) m)

pub back : (kept : ℕ → Bool) (m n : State) → DifferInBytes kept m n → DifferInBytes kept n m
back kept m n differ = from-view kept n m (differ-back (view_of kept) m n (to-view kept m n differ))

pub then : (kept : ℕ → Bool) (m n o : State) → DifferInBytes kept m n → DifferInBytes kept n o → DifferInBytes kept m o
then kept m n o first second = from-view kept m o (differ-then (view_of kept) m n o (to-view kept m n first) (to-view kept n o second))

-- calls

redacted-form : (kept : ℕ → Bool) (m : State) (call : Call) → redacted_in kept m call ≡ with_bytes call (bytes_of (redacted_in kept m call))
redacted-form kept m (HostWrite f off bytes) = refl
redacted-form kept m (GuestWrite v c g off bytes) = refl
redacted-form kept m _ = refl

redacted-length : (kept : ℕ → Bool) (m : State) (call : Call) → length (bytes_of (redacted_in kept m call)) ≡ length (bytes_of call)
redacted-length kept m (HostWrite f off bytes) = by-test (kept f && counts kept m f (frame_at m f).owner)
  where
    by-test : (b : Bool) → length (cond b bytes (blanked bytes)) ≡ length bytes
    by-test true = refl
    by-test false = length-replicate (length bytes) 0
redacted-length kept m (GuestWrite v c g off bytes) = length-replicate (length bytes) 0
redacted-length kept m _ = refl

pub calls-form : (kept : ℕ → Bool) (m : State) (call other : Call) → redacted_in kept m other ≡ redacted_in kept m call → with_bytes call (bytes_of other) ≡ other
calls-form kept m call other same = of-one-form call other _ _ (sym (redacted-form kept m call) ∙ sym same ∙ redacted-form kept m other)

-- bytes that the host writes to a frame that is not kept do not count
unseen-by : (kept : ℕ → Bool) (m : State) (f : ℕ) (owner : Owner) → IsLawful m → kept f ≡ false → (frame_at m f).owner ≡ owner → f < length m.frames → (owner ≡ Host) ⊎ (0 < (frame_at m f).share) → counts kept m f owner ≡ false
unseen-by kept m f Core is none e low reached = none
unseen-by kept m f Host is none e low reached = none
unseen-by kept m f Free is none e low reached = none
unseen-by kept m f (Vm v) is none e low reached = elim reached [
  | inl host ↦ absurd cc
  | inr some ↦ ap (λ phase. not (is_active phase)) (is.shared v f ((is.each_frame f low).slot v e) e some)
]

pub calls-may : (kept : ℕ → Bool) (m : State) (call other : Call) → IsLawful m → redacted_in kept m other ≡ redacted_in kept m call → MayWrite (view_of kept) m call (bytes_of other)
calls-may kept m call other is same = record {
  number = number;
  same = λ served f at shown. by-call call (bytes_of other) number (ap (redacted_in kept m) (calls-form kept m call other same) ∙ same) served f at shown;
}
  where
    number : length (bytes_of other) ≡ length (bytes_of call)
    number = sym (redacted-length kept m other) ∙ ap (λ x. length (bytes_of x)) same ∙ redacted-length kept m call

    none : (written : List ℕ) → length written ≡ 0 → written ≡ []
    none [] h = refl
    none (b ∷ written) h = cc

    chosen : (b : Bool) (bytes written : List ℕ) → b ≡ true → cond b written (blanked written) ≡ cond b bytes (blanked bytes) → written ≡ bytes
    chosen true bytes written e same = same
    chosen false bytes written e same = cc

    by-call : (call : Call) (written : List ℕ) → length written ≡ length (bytes_of call) → redacted_in kept m (with_bytes call written) ≡ redacted_in kept m call → refusal m call ≡ None → (f : ℕ) → touched m call ≡ Some f → seen (view_of kept) m f (frame_at m f) ≡ true → written ≡ bytes_of call
    by-call (HostWrite k off bytes) written many same served f at shown =
        let x = frame_at m k in
        let here : k ≡ f = cc in
        let counted : counts kept m k x.owner ≡ true = sym (seen-is kept m k x.owner x.gfn) ∙ subst (λ j. seen (view_of kept) m j (frame_at m j) ≡ true) (sym here) shown in
        let access = host_access-served m k off (length bytes) served in
        let low : k < length m.frames = rw is.frames access.frame in
        elim (cases_Bool (kept k)) [
          | inl keeps ↦ chosen (kept k && counts kept m k x.owner) bytes written (rw (keeps, counted) refl) (ap bytes_of same)
          | inr drops ↦ let unseen = unseen-by kept m k x.owner is drops refl low ((is.each_frame k low).reached access.present) in absurd cc
        ]
    by-call (GuestWrite v c g off bytes) written many same served f at shown =
        let call = (guest_access-served m v c g off (length bytes) served).0 in
        let owner = owner-mapped m v g f is call.vm at in
        let unseen : counts kept m f (frame_at m f).owner ≡ false = ap (counts kept m f) owner ∙ ap (λ phase. not (is_active phase)) call.active in
        let counted = sym (seen-is kept m f (frame_at m f).owner (frame_at m f).gfn) ∙ shown in
        absurd cc
    by-call _ written many same served f at shown = none written many

pub reply-is : (kept : ℕ → Bool) (m : State) (call : Call) (answer other : Reply) → IsReply (view_of kept) m call answer other → IsSameReply call answer other
reply-is kept m call answer other is = record { form = is.form; whole = λ h. is.whole (λ reads. absurd cc) }
