-- Secret bytes are bytes that do not count: each frame is kept, and the slot's secret guest frames are hidden.
use Rattle.std.proofs.Common.{ℕ, ◌≡◌, ◌<◌, inl, inr, Bool, true, false, cond, not, ◌&&◌, List, [], ◌∷◌, map, length, get_or, nat_eq, replicate, None, Some, refl, sym, ap, subst, ◌∙◌}
use Rattle.std.proofs.lemmas.Bool.{cases_eq, ne_eqb}
use Rattle.std.proofs.lemmas.List.{length-map, length-replicate}
use Rattle.kc_types.specs.declared.call.Call.{Call}
use Rattle.kc_types.specs.declared.call.Call.TheVariants.{HostRead, HostWrite, GuestRead, GuestWrite}
use Rattle.kc_types.specs.declared.owner.Owner.{Owner}
use Rattle.kc_types.specs.declared.owner.Owner.TheVariants.{Core, Host, Free, Vm}
use Rattle.kc_types.specs.declared.custody.Custody.{Custody}
use Rattle.kc_model.specs.State.{State, Frame, Slot, frame_at, untouched, no_slot}
use Rattle.kc_model.specs.Refusals.{refusal, is_active}
use Rattle.kc_model.specs.Lawful.{IsLawful, same_owner}
use Rattle.kc_model.specs.Custody.{custody_of}
use Rattle.kc_model.specs.Blind.{Secret, has_gfn, is_secret, hidden_frame, is_running, hidden, names_secret, hidden_call, reads_secret, IsPrivate}
use Rattle.kc_model.specs.Redaction.{all_frames, is_read, AreAlike}
use Rattle.kc_model.proofs.Refusals.Served.{host_access-served}
use Rattle.kc_model.proofs.Lawful.GuestCalls.{guest_access-served}
use Rattle.kc_model.proofs.Views.Alike.{View, sees, seen, Alike, same-filled, maps-alike}
use Rattle.kc_model.proofs.Views.Steps.{IsView, bytes_of, with_bytes, touched, MayWrite, Shows}
use Rattle.kc_model.proofs.Views.Calls.{of-one-form}
use Rattle.kc_model.proofs.Blind.Unseen.{frame-hidden, open-frame, open-host, open-shared, open-mapped, is_secret-mapped}

abbrev pub view_of : Secret → View
view_of s = record { kept = all_frames; hides = λ v gfn. nat_eq v s.vm && has_gfn s.gfns gfn }

pub is_view : (s : Secret) → IsView (view_of s)
is_view s f v g = inl refl

-- a frame's bytes count exactly if it is not secret
pub seen-is : (s : Secret) (m : State) (f : ℕ) (x : Frame) → seen (view_of s) m f x ≡ not (is_secret s (is_running m s.vm) x)
seen-is s m f x = by-owner x.owner
  where
    joined : (a b c : Bool) → ((a && b) && c) ≡ (a && (b && c))
    joined true b c = refl
    joined false b c = refl

    by-owner : (owner : Owner) → sees (view_of s) m f owner x.gfn ≡ not (same_owner owner (Vm s.vm) && (has_gfn s.gfns x.gfn && is_running m s.vm))
    by-owner Core = refl
    by-owner Host = refl
    by-owner Free = refl
    by-owner (Vm v) = elim (cases_eq v s.vm) [
      | inl same ↦ ap not (ap (λ k. (nat_eq v s.vm && has_gfn s.gfns x.gfn) && is_running m k) same ∙ joined (nat_eq v s.vm) (has_gfn s.gfns x.gfn) (is_running m s.vm))
      | inr other ↦ let differ = ne_eqb v s.vm other in rw differ refl
    ]

-- states without secret bytes are the same exactly if the states differ only in bytes that do not count

pub running-alike : (s : Secret) (m n : State) → hidden s m ≡ hidden s n → is_running m s.vm ≡ is_running n s.vm
running-alike s m n same = ap (λ (x : State). is_running x s.vm) same

pub frames-hidden : (s : Secret) (m n : State) → hidden s m ≡ hidden s n → (f : ℕ) → hidden_frame s (is_running m s.vm) (frame_at m f) ≡ hidden_frame s (is_running n s.vm) (frame_at n f)
frames-hidden s m n same f = sym (frame-hidden s m f) ∙ ap (λ (x : State). frame_at x f) same ∙ frame-hidden s n f

not-true : (b : Bool) → not b ≡ true → b ≡ false
not-true false h = refl
not-true true h = cc

pub to-view : (s : Secret) (m n : State) → hidden s m ≡ hidden s n → Alike (view_of s) m n
to-view s m n same = record {
  config = sym (ap (λ (x : State). x.config) same);
  free = sym (ap (λ (x : State). x.free) same);
  slots = sym (ap (λ (x : State). x.slots) same);
  number = sym (length-map n.frames (hidden_frame s (is_running n s.vm))) ∙ sym (ap (λ (x : State). length x.frames) same) ∙ length-map m.frames (hidden_frame s (is_running m s.vm));
  frames = λ f.
      let at = frames-hidden s m n same f in
      record {
        custody = sym (ap custody_of at);
        bytes = λ h.
            let first : is_secret s (is_running m s.vm) (frame_at m f) ≡ false = not-true _ (sym (seen-is s m f (frame_at m f)) ∙ h) in
            let second : is_secret s (is_running n s.vm) (frame_at n f) ≡ false = sym (ap (is_secret s (is_running n s.vm)) at) ∙ ap (λ b. is_secret s b (frame_at m f)) (sym (running-alike s m n same)) ∙ first in
            sym (ap (λ (x : Frame). x.bytes) (sym (open-frame s (is_running m s.vm) (frame_at m f) first) ∙ at ∙ open-frame s (is_running n s.vm) (frame_at n f) second));
      };
}

pub from-view : (s : Secret) (m n : State) → Alike (view_of s) m n → hidden s m ≡ hidden s n
from-view s m n alike = sym (ap (λ xs. record n { frames = xs }) frames ∙ others alike.config alike.free alike.slots)
  where
    running : is_running n s.vm ≡ is_running m s.vm
    running = ap (λ (slots : List Slot). is_active (get_or slots s.vm no_slot).phase) alike.slots

    -- whether a frame is secret depends on its custody
    secret-alike : (f : ℕ) → is_secret s (is_running n s.vm) (frame_at n f) ≡ is_secret s (is_running m s.vm) (frame_at m f)
    secret-alike f =
        ap (λ (c : Custody). same_owner c.owner (Vm s.vm) && (has_gfn s.gfns c.gfn && is_running n s.vm)) (alike.frames f).custody
        ∙ ap (λ b. is_secret s b (frame_at m f)) running

    one : (f : ℕ) → hidden_frame s (is_running n s.vm) (frame_at n f) ≡ hidden_frame s (is_running m s.vm) (frame_at m f)
    one f =
        let b = is_secret s (is_running m s.vm) (frame_at m f) in
        ap (λ t. record (frame_at n f) { bytes = cond t [] (frame_at n f).bytes }) (secret-alike f)
        ∙ same-filled [] b (frame_at m f) (frame_at n f) (subst (λ t. AreAlike t (frame_at m f) (frame_at n f)) (seen-is s m f (frame_at m f)) (alike.frames f))

    frames : map (hidden_frame s (is_running n s.vm)) n.frames ≡ map (hidden_frame s (is_running m s.vm)) m.frames
    frames = maps-alike (hidden_frame s (is_running m s.vm)) (hidden_frame s (is_running n s.vm)) m.frames n.frames (untouched Core) alike.number (λ f lt. one f)

    others : n.config ≡ m.config → n.free ≡ m.free → n.slots ≡ m.slots → record n { frames = map (hidden_frame s (is_running m s.vm)) m.frames } ≡ hidden s m
    others config free slots = rw (config, free, slots) refl

-- calls

hidden-form : (s : Secret) (call : Call) → hidden_call s call ≡ with_bytes call (bytes_of (hidden_call s call))
hidden-form s (HostWrite f off bytes) = refl
hidden-form s (GuestWrite v c g off bytes) = refl
hidden-form s _ = refl

hidden-length : (s : Secret) (call : Call) → length (bytes_of (hidden_call s call)) ≡ length (bytes_of call)
hidden-length s (GuestWrite v c g off bytes) = by-test (names_secret s v g)
  where
    by-test : (b : Bool) → length (cond b (replicate (length bytes) 0) bytes) ≡ length bytes
    by-test true = length-replicate (length bytes) 0
    by-test false = refl
hidden-length s _ = refl

pub calls-form : (s : Secret) (call other : Call) → hidden_call s call ≡ hidden_call s other → with_bytes call (bytes_of other) ≡ other
calls-form s call other same = of-one-form call other _ _ (sym (hidden-form s call) ∙ same ∙ hidden-form s other)

pub calls-may : (s : Secret) (m : State) (call other : Call) → IsLawful m → hidden_call s call ≡ hidden_call s other → MayWrite (view_of s) m call (bytes_of other)
calls-may s m call other is same = record {
  number = number;
  same = λ served f at counts. by-call call (bytes_of other) number (same ∙ ap (hidden_call s) (sym (calls-form s call other same))) served f at counts;
}
  where
    number : length (bytes_of other) ≡ length (bytes_of call)
    number = sym (hidden-length s other) ∙ sym (ap (λ x. length (bytes_of x)) same) ∙ hidden-length s call

    none : (written : List ℕ) → length written ≡ 0 → written ≡ []
    none [] h = refl
    none (b ∷ written) h = cc

    shown : (v g f : ℕ) (b : Bool) (bytes written : List ℕ) → names_secret s v g ≡ b → (b ≡ true → seen (view_of s) m f (frame_at m f) ≡ true → ⊥) → seen (view_of s) m f (frame_at m f) ≡ true
        → cond b (replicate (length bytes) 0) bytes ≡ cond b (replicate (length written) 0) written → written ≡ bytes
    shown v g f true bytes written names none counts same = absurd (none refl counts)
    shown v g f false bytes written names none counts same = sym same

    by-call : (call : Call) (written : List ℕ) → length written ≡ length (bytes_of call) → hidden_call s call ≡ hidden_call s (with_bytes call written) → refusal m call ≡ None → (f : ℕ) → touched m call ≡ Some f → seen (view_of s) m f (frame_at m f) ≡ true → written ≡ bytes_of call
    by-call (HostWrite k off bytes) written number same served f at counts = sym (ap bytes_of same)
    by-call (GuestWrite v c g off bytes) written number same served f at counts =
        let call = (guest_access-served m v c g off (length bytes) served).0 in
        shown v g f (names_secret s v g) bytes written refl
        (λ names h. let secret = is_secret-mapped s m v g f is call.vm call.active at names in let open_it = sym (seen-is s m f (frame_at m f)) ∙ h in absurd cc) counts (ap bytes_of same)
    by-call _ written number same served f at counts = none written number

-- a frame that is read is not secret, unless the call reads a secret
pub reads-shown : (s : Secret) (m : State) (call : Call) → IsLawful m → IsPrivate s m → reads_secret s call ≡ false → is_read call ≡ true → refusal m call ≡ None → Shows (view_of s) m call
reads-shown s m (HostRead k off len) is private reads read served f at = subst (λ j. seen (view_of s) m j (frame_at m j) ≡ true) (same at) (seen-is s m k (frame_at m k) ∙ ap not open_it)
  where
    same : Some k ≡ Some f → k ≡ f
    same e = cc

    open_it : is_secret s (is_running m s.vm) (frame_at m k) ≡ false
    open_it =
        let seen = host_access-served m k off len served in
        let low : k < length m.frames = rw is.frames seen.frame in
        elim ((is.each_frame k low).reached seen.present) [
          | inl host ↦ open-host s (is_running m s.vm) (frame_at m k) host
          | inr shared ↦ open-shared s m k private shared
        ]
reads-shown s m (GuestRead v c g off len) is private reads read served f at =
    seen-is s m f (frame_at m f) ∙ ap not (open-mapped s m v g f is (guest_access-served m v c g off len served).0.vm at reads)
reads-shown s m _ is private reads read served f at = absurd cc
