-- States in which the pages of active VMs are zeroed.
use Rattle.std.proofs.Common.{ℕ, ◌≡◌, ◌<◌, Bool, true, false, cond, not, List, [], ◌∷◌, map, length, replicate, get_or, refl, sym, ap, subst, ◌∙◌}
use Rattle.std.proofs.lemmas.List.{length-map, length-replicate}
use Rattle.kc_types.specs.declared.call.Call.{Call}
use Rattle.kc_types.specs.declared.call.Call.TheVariants.{HostWrite, GuestWrite}
use Rattle.kc_types.specs.declared.owner.Owner.{Owner}
use Rattle.kc_types.specs.declared.owner.Owner.TheVariants.{Core, Host, Free, Vm}
use Rattle.kc_types.specs.declared.custody.Custody.{Custody}
use Rattle.kc_model.specs.State.{State, Frame, Slot, frame_at, zero_page, untouched, no_slot}
use Rattle.kc_model.specs.Refusals.{is_active}
use Rattle.kc_model.specs.Next.{next, state_after}
use Rattle.kc_model.specs.Lawful.{IsLawful, IsLawfulFrame, IsPage}
use Rattle.kc_model.specs.Redaction.{blanked, redacted_call, redacted, redacted_in, DifferInCalls, all_frames, KeepsImages, counts, AreAlike, DifferInBytes, TellTheSame}
use Rattle.kc_model.specs.Blanking.{is_guests, blank_frame, blank_state, redacted_from, TellsBlank, IsAuditedBlank}
use Rattle.kc_model.proofs.States.ZeroPage.{zero_page-is}
use Rattle.kc_model.proofs.Blind.Unseen.{at-map}
use Rattle.kc_model.proofs.Views.Alike.{same-filled, maps-alike}
use Rattle.kc_model.proofs.Views.Calls.{all-kept}
use Rattle.kc_model.proofs.Redaction.AsView.{itself}
use Rattle.kc_model.proofs.Redaction.Traces.{bytes_decide_nothing}

frame-blank : (m : State) (f : ℕ) → frame_at (blank_state m) f ≡ blank_frame m (frame_at m f)
frame-blank m f = at-map (blank_frame m) m.frames f (untouched Core) refl

-- if all frames are kept, only the bytes of active VMs' frames do not count
counted-is : (m : State) (f : ℕ) (owner : Owner) → counts all_frames m f owner ≡ not (is_guests m owner)
counted-is m f (Vm v) = refl
counted-is m f Core = refl
counted-is m f Host = refl
counted-is m f Free = refl

shown : (b : Bool) (bytes : List ℕ) → not b ≡ true → cond b zero_page bytes ≡ bytes
shown false bytes h = refl
shown true bytes h = cc

alike-blank : (m : State) (f : ℕ) (x : Frame) → AreAlike (counts all_frames m f x.owner) x (blank_frame m x)
alike-blank m f x = record { custody = refl; bytes = λ h. shown (is_guests m x.owner) x.bytes (sym (counted-is m f x.owner) ∙ h) }

differ-blank : (m : State) → DifferInBytes all_frames m (blank_state m)
differ-blank m = record {
  config = refl;
  free = refl;
  slots = refl;
  number = length-map m.frames (blank_frame m);
  frames = λ f. subst (AreAlike (counts all_frames m f (frame_at m f).owner) (frame_at m f)) (sym (frame-blank m f)) (alike-blank m f (frame_at m f));
}

page-blank : (b : Bool) (bytes : List ℕ) → IsPage bytes → IsPage (cond b zero_page bytes)
page-blank true bytes is = zero_page-is
page-blank false bytes is = is

zeroed-blank : (m : State) (owner : Owner) (bytes : List ℕ) → owner ≡ Free → bytes ≡ zero_page → cond (is_guests m owner) zero_page bytes ≡ zero_page
zeroed-blank m owner bytes free zeroed = ap (λ o. cond (is_guests m o) zero_page bytes) free ∙ zeroed

lawful-blank_frame : (m : State) (f : ℕ) (x : Frame) → IsLawfulFrame m.config f x → IsLawfulFrame m.config f (blank_frame m x)
lawful-blank_frame m f x is = record {
  core = is.core;
  mapped = is.mapped;
  shared = is.shared;
  sharer = is.sharer;
  reached = is.reached;
  zeroed = λ free. zeroed-blank m x.owner x.bytes free (is.zeroed free);
  page = page-blank (is_guests m x.owner) x.bytes is.page;
  slot = is.slot;
  gfn = is.gfn;
}

lawful-blank : (m : State) → IsLawful m → IsLawful (blank_state m)
lawful-blank m is = record {
  config = is.config;
  frames = length-map m.frames (blank_frame m) ∙ is.frames;
  slots = is.slots;
  each_frame = λ f lt. subst (IsLawfulFrame m.config f) (sym (frame-blank m f)) (lawful-blank_frame m f (frame_at m f) (is.each_frame f (let low : f < length m.frames = rw length-map at lt in low)));
  each_slot = is.each_slot;
  free = λ f. rw (frame-blank m f) (is.free f);
  listed = λ v low f. rw (frame-blank m f) (is.listed v low f);
  mapped = λ v g f low. rw (frame-blank m f) (is.mapped v g f low);
  shared = λ v f low. rw (frame-blank m f) (is.shared v f low);
}

-- states that differ only in such bytes have the same blank state
frame-same : (m : State) (f : ℕ) (x y : Frame) → AreAlike (counts all_frames m f x.owner) x y → blank_frame m y ≡ blank_frame m x
frame-same m f x y alike =
    ap (λ o. record y { bytes = cond (is_guests m o) zero_page y.bytes }) (ap (λ (c : Custody). c.owner) alike.custody)
    ∙ same-filled zero_page (is_guests m x.owner) x y (subst (λ b. AreAlike b x y) (counted-is m f x.owner) alike)

guests-by : (m n : State) → n.slots ≡ m.slots → (x : Frame) → blank_frame n x ≡ blank_frame m x
guests-by m n slots x = ap (λ b. record x { bytes = cond b zero_page x.bytes }) (by-owner x.owner)
  where
    by-owner : (owner : Owner) → is_guests n owner ≡ is_guests m owner
    by-owner (Vm v) = ap (λ (slots : List Slot). is_active (get_or slots v no_slot).phase) slots
    by-owner Core = refl
    by-owner Host = refl
    by-owner Free = refl

blank-same : (m n : State) → DifferInBytes all_frames m n → blank_state n ≡ blank_state m
blank-same m n differ =
    let config = differ.config in
    let free = differ.free in
    let slots = differ.slots in
    let frames : map (blank_frame n) n.frames ≡ map (blank_frame m) m.frames = maps-alike (blank_frame m) (blank_frame n) m.frames n.frames (untouched Core) differ.number
    (λ f lt. guests-by m n differ.slots (frame_at n f) ∙ frame-same m f (frame_at m f) (frame_at n f) (differ.frames f)) in
    ap (λ xs. record n { frames = xs }) frames ∙ others config free slots
  where
    others : n.config ≡ m.config → n.free ≡ m.free → n.slots ≡ m.slots → record n { frames = map (blank_frame m) m.frames } ≡ blank_state m
    others config free slots = rw (config, free, slots) refl

-- redacting twice is redacting once
length-zeros : (bytes : List ℕ) → blanked (blanked bytes) ≡ blanked bytes
length-zeros bytes = ap (λ n. blank-of n) (length-replicate {A = ℕ} (length bytes) 0)
  where
    blank-of : ℕ → List ℕ
    blank-of n = replicate n 0

call-twice : (m : State) (call : Call) → redacted_in all_frames m (redacted_call call) ≡ redacted_in all_frames m call
call-twice m (GuestWrite v c g off bytes) = ap (GuestWrite v c g off) (length-zeros bytes)
call-twice m (HostWrite f off bytes) = refl
call-twice m _ = refl

pub redacted-differ : (m : State) (calls : List Call) → DifferInCalls all_frames m calls (redacted calls)
redacted-differ m [] = tt
redacted-differ m (call ∷ calls) = (call-twice m call, redacted-differ (next m call).1 calls)

pub keeps-all : (calls : List Call) → KeepsImages all_frames calls
keeps-all [] = tt
keeps-all (call ∷ calls) = (all-kept call, keeps-all calls)

-- redacting twice is redacting once
bytes-twice : (b : Bool) (bytes : List ℕ) → cond b (cond b bytes (blanked bytes)) (blanked (cond b bytes (blanked bytes))) ≡ cond b bytes (blanked bytes)
bytes-twice true bytes = refl
bytes-twice false bytes = length-zeros bytes

again : (m : State) (call : Call) → redacted_in all_frames m (redacted_in all_frames m call) ≡ redacted_in all_frames m call
again m (GuestWrite v c g off bytes) = ap (GuestWrite v c g off) (length-zeros bytes)
again m (HostWrite f off bytes) = ap (HostWrite f off) (bytes-twice (counts all_frames m f (frame_at m f).owner) bytes)
again m _ = refl

pub wholly-differ : (m : State) (calls : List Call) → DifferInCalls all_frames m calls (redacted_from m calls)
wholly-differ m [] = tt
wholly-differ m (call ∷ calls) = (again m call, wholly-differ (next m call).1 calls)

-- from one state both have the same custody, replies and events
pub told_alike : (m : State) (calls : List Call) → IsLawful m → TellTheSame all_frames m m calls (redacted calls)
told_alike m calls is = bytes_decide_nothing m calls is all_frames m (redacted calls) is (itself all_frames m) (redacted-differ m calls) (keeps-all calls)

tells-blank : (m : State) (calls others : List Call) → IsLawful m → DifferInCalls all_frames m calls others → TellsBlank m calls others
tells-blank m calls others is alike =
    let told = bytes_decide_nothing m calls is all_frames (blank_state m) others (lawful-blank m is) (differ-blank m) alike (keeps-all calls) in
    record {
      left = blank-same (state_after m calls) (state_after (blank_state m) others) told.states;
      events = told.events;
      custody = told.custody;
    }

pub audited_blank : (m : State) (calls : List Call) → IsLawful m → IsAuditedBlank m calls
audited_blank m calls is = record {
  lawful = lawful-blank m is;
  differs = differ-blank m;
  plainly = tells-blank m calls (redacted calls) is (redacted-differ m calls);
  wholly = tells-blank m calls (redacted_from m calls) is (wholly-differ m calls);
}
