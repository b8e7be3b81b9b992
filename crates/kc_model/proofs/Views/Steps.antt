-- One call on two states that differ only in bytes that do not count; the bytes that it writes may differ too if these
-- do not count.
use Rattle.std.proofs.Common.{ℕ, zero, suc, ◌≡◌, ◌<◌, ◌≤◌, ◌+◌, ◌-◌, ◌%◌, ◌⊎◌, inl, inr, Bool, true, false, not, ◌&&◌, List, [], ◌∷◌, ◌++◌, length, take, replicate, get_or, set, nat_eq, nat_le, nat_lt, refl, sym, ap, ap₂, subst, ◌∙◌, arith, Option, None, Some, length-drop}
use Rattle.std.proofs.lemmas.List.{length-take}
use Rattle.std.proofs.lemmas.List.Folds.{list_any_at}
use Rattle.std.proofs.lemmas.Grind.{common_steps}
use Rattle.std.specs.List.{list_any, range_with_len, slice_range}
use Rattle.kc_types.specs.Configuration.{slot_count}
use Rattle.kc_types.specs.declared.call.Call.{Call}
use Rattle.kc_types.specs.declared.call.Call.TheVariants.{Take, Give, HostFault, HostRead, HostWrite, RegisterVm, RegisterVcpu, SetBoot, Remap, Verify, Map, GuestRead, GuestWrite, Grant, Revoke, GrantRange, RevokeRange, Drop, Clear}
use Rattle.kc_types.specs.declared.reply.Reply.{Reply}
use Rattle.kc_types.specs.declared.reply.Reply.TheVariants as reply
use Rattle.kc_types.specs.declared.refusal.Refusal.{Refusal}
use Rattle.kc_types.specs.declared.refusal.Refusal.TheVariants.{ShareFull, NotShared, Shared}
use Rattle.kc_types.specs.declared.owner.Owner.{Owner}
use Rattle.kc_types.specs.declared.owner.Owner.TheVariants.{Core, Host, Free, Vm}
use Rattle.kc_types.specs.declared.slot.Phase.TheVariants.{Booting, Active, Dead}
use Rattle.kc_types.specs.declared.custody.Custody.{Custody}
use Rattle.std.specs.FinMap as map
use Rattle.kc_model.specs.Slot.{awaiting, in_phase, with_vcpu, with_image}
use Rattle.kc_model.specs.State.{State, Frame, Slot, Image, frame_at, slot_at, mapped_at, image_at, with_frame, with_slot, untouched, zero_page, overwritten}
use Rattle.kc_model.specs.Refusals.{refusal, is_active, backing, share_at, any_from, guest_frame, guest_range, first_of_these, when, next_gfn, pending, pages_of, is_short, conditions}
use Rattle.kc_model.specs.Effects.{Outcome, effect, read, host_takes, hand, guest_read, guest_written, written, freed, without, with_leaf, granted, revoked, with_each, frames_under, dropped, cleared, trimmed, all_trimmed, verified, unapproved, image_bytes, bytes_at}
use Rattle.kc_model.specs.Next.{next, unless_refused}
use Rattle.kc_model.specs.Lawful.{IsLawful, holds}
use Rattle.kc_model.specs.Custody.{custody_of}
use Rattle.kc_model.specs.Redaction.{keeps_images, AreAlike, is_read, redacted_reply}
use Rattle.kc_model.proofs.States.Approvals.{unapproved-same}
use Rattle.kc_model.proofs.Refusals.Served.{none-of}
use Rattle.kc_model.proofs.Refusals.Answered.{vm-in, was-empty}
use Rattle.kc_model.proofs.States.Each.{any-same, length-changed}
use Rattle.kc_model.proofs.States.Slots.{none-at}
use Rattle.kc_model.proofs.Lawful.Moves.{first_free}
use Rattle.kc_model.proofs.Lawful.GuestCalls.{owner-mapped}
use Rattle.kc_model.proofs.Lawful.HandCalls.{remap-served, map-served}
use Rattle.kc_model.proofs.Lawful.Verifies.{verify-served, backing-of}
use Rattle.kc_model.proofs.Lawful.Clears.{after, slot-kept}
use Rattle.kc_model.proofs.States.Sizes.{length-scrubbed}
use Rattle.kc_model.proofs.Local.VerifyLocal.{pages-same}
use Rattle.kc_model.proofs.Views.Alike.{View, sees, seen, Alike, beside, owner-alike, share-alike, present-alike, IsPlain, AlikeFrames, frames-set, number-set, frames-changed, frames-each, differ-slot, beside-is, whole}

-- each frame is kept, or hidden at each guest frame
abbrev pub IsView : View → Type 0
IsView view = (f v g : ℕ) → (view.kept f ≡ true) ⊎ (view.hides v (Some g) ≡ true)

-- the bytes that a call writes, and the call with others in their place
abbrev pub bytes_of : Call → List ℕ
bytes_of (HostWrite f off bytes) = bytes
bytes_of (GuestWrite v c g off bytes) = bytes
bytes_of call = []

abbrev pub with_bytes : Call → List ℕ → Call
with_bytes (HostWrite f off bytes) other = HostWrite f off other
with_bytes (GuestWrite v c g off bytes) other = GuestWrite v c g off other
with_bytes call other = call

-- the frame whose bytes a call reads or writes
abbrev pub touched : State → Call → Option ℕ
touched m (HostRead f off len) = Some f
touched m (HostWrite f off bytes) = Some f
touched m (GuestRead v c g off len) = mapped_at m v g
touched m (GuestWrite v c g off bytes) = mapped_at m v g
touched m call = None

-- if a call touches a frame, its bytes count
abbrev pub Shows : View → State → Call → Type 0
Shows view m call = (f : ℕ) → touched m call ≡ Some f → seen view m f (frame_at m f) ≡ true

-- other bytes may be written: as many, and the same if they count
pub record MayWrite (view : View) (m : State) (call : Call) (other : List ℕ) : Type 0 where
  pub number : length other ≡ length (bytes_of call)
  pub same : refusal m call ≡ None → (f : ℕ) → touched m call ≡ Some f → seen view m f (frame_at m f) ≡ true → other ≡ bytes_of call

-- the same reply, but for bytes that are read and do not count
pub record IsReply (view : View) (m : State) (call : Call) (answer other : Reply) : Type 0 where
  pub form : redacted_reply other ≡ redacted_reply answer
  pub whole : (is_read call ≡ true → refusal m call ≡ None → Shows view m call) → other ≡ answer

-- what a call does to both
pub record IsStep (view : View) (m : State) (call : Call) (o p : Outcome) : Type 0 where
  pub states : Alike view o.1 p.1
  pub answer : IsReply view m call o.0 p.0

same-reply : (view : View) (m : State) (call : Call) (answer : Reply) → IsReply view m call answer answer
same-reply view m call answer = record { form = refl; whole = λ h. refl }

-- why the call is refused

-- a test of the shares of a range
shares-alike : (view : View) (m : State) (ys : List Frame) → AlikeFrames view m m.frames ys → (v g n : ℕ) (test : ℕ → Bool) → any_from g n (λ h. test (share_at (beside m ys) v h)) ≡ any_from g n (λ h. test (share_at m v h))
shares-alike view m ys alike v g n test = any-same _ _ g n (λ h low high. ap test (share-alike _ _ _ (alike (backing (mapped_at m v h)))))

pub refusal-alike : (view : View) (m : State) (ys : List Frame) (call : Call) (other : List ℕ) → AlikeFrames view m m.frames ys → length other ≡ length (bytes_of call) → refusal (beside m ys) (with_bytes call other) ≡ refusal m call
refusal-alike view m ys (Give f) other alike number = let owner = owner-alike _ _ _ (alike f) in rw owner refl
refusal-alike view m ys (HostFault f) other alike number = let owner = owner-alike _ _ _ (alike f) in let share = share-alike _ _ _ (alike f) in rw (owner, share) refl
refusal-alike view m ys (HostRead f off len) other alike number = let present = present-alike _ _ _ (alike f) in rw present refl
refusal-alike view m ys (HostWrite f off bytes) other alike number = let present = present-alike _ _ _ (alike f) in rw (present, number) refl
refusal-alike view m ys (Remap v i f) other alike number = let owner = owner-alike _ _ _ (alike f) in rw owner refl
refusal-alike view m ys (Map v c f) other alike number = let owner = owner-alike _ _ _ (alike f) in rw owner refl
refusal-alike view m ys (GuestWrite v c g off bytes) other alike number = rw number refl
refusal-alike view m ys (Grant v c g) other alike number = ap (λ share. first_of_these (guest_frame m v c g (when (nat_le 100 share) ShareFull))) (share-alike _ _ _ (alike (backing (mapped_at m v g))))
refusal-alike view m ys (Revoke v c g) other alike number = ap (λ share. first_of_these (guest_frame m v c g (when (nat_eq share 0) NotShared))) (share-alike _ _ _ (alike (backing (mapped_at m v g))))
refusal-alike view m ys (GrantRange v c g n) other alike number = ap (λ full. first_of_these (guest_range m v c g n (when full ShareFull))) (shares-alike view m ys alike v g n (nat_le 100))
refusal-alike view m ys (RevokeRange v c g n) other alike number = ap (λ none. first_of_these (guest_range m v c g n (when none NotShared))) (shares-alike view m ys alike v g n (λ share. nat_eq share 0))
refusal-alike view m ys (Drop v c g) other alike number = ap (λ share. first_of_these (guest_frame m v c g (when (nat_lt 0 share) Shared))) (share-alike _ _ _ (alike (backing (mapped_at m v g))))
refusal-alike view m ys _ other alike number = refl

-- a page of an image that has all its pages
pub held : (image : Image) (g : ℕ) → is_short image ≡ false → image.base ≤ g → g < image.base + pages_of image.len → holds g image ≡ true
held image g full low high = grind (arith, common_steps, full)

module _ (view : View) (m : State) (ys : List Frame) (is : IsLawful m) (other_is : IsLawful (beside m ys)) (number : length ys ≡ length m.frames) (alike : AlikeFrames view m m.frames ys) where
  both : Alike view m (beside m ys)
  both = record { config = refl; free = refl; slots = refl; number = number; frames = alike }

  -- one frame is written, and the list of free frames may change
  one : (f : ℕ) (x y : Frame) (free : List ℕ) → AreAlike (seen view m f x) x y → Alike view (record (with_frame m f x) { free = free }) (record (with_frame (beside m ys) f y) { free = free })
  one f x y free here = record {
    config = refl;
    free = refl;
    slots = refl;
    number = number-set m.frames ys f x y number;
    frames = frames-set view m m.frames ys f x y number alike here;
  }

  -- one frame is changed
  changed : (f : ℕ) (change : Frame → Frame) → IsPlain change → Alike view (with_frame m f (change (frame_at m f))) (with_frame (beside m ys) f (change (frame_at (beside m ys) f)))
  changed f change plain = record {
    config = refl;
    free = refl;
    slots = refl;
    number = number-set m.frames ys f _ _ number;
    frames = frames-changed view m m.frames ys f change plain number alike;
  }

  -- some frames are changed
  each : (v : ℕ) (gs : List ℕ) (change : Frame → Frame) → IsPlain change → Alike view (with_each m v gs change) (with_each (beside m ys) v gs change)
  each v gs change plain =
      let fs = frames_under (slot_at m v).mapped gs in
      record {
        config = refl;
        free = refl;
        slots = refl;
        number = length-changed change ys fs ∙ number ∙ sym (length-changed change m.frames fs);
        frames = frames-each view m change plain m.frames ys fs number alike;
      }

  takes : (free : List ℕ) → m.free ≡ free → IsStep view m Take (host_takes m free) (host_takes (beside m ys) free)
  takes [] e = record { states = both; answer = same-reply view m Take reply.Done }
  takes (f ∷ rest) e =
      let x = frame_at m f in
      let y = frame_at (beside m ys) f in
      let first = first_free m f rest is e in
      let second = first_free (beside m ys) f rest other_is e in
      let zero_x = (is.each_frame f first.1).zeroed first.0 in
      let zero_y = (other_is.each_frame f second.1).zeroed second.0 in
      let share = share-alike _ _ _ (alike f) in
      let gfn = ap (λ (c : Custody). c.gfn) (alike f).custody in
      record {
        states = one f (record x { owner = Host; present = false }) (record y { owner = Host; present = false }) rest (record {
          custody = rw (share, gfn) refl;
          bytes = λ h. zero_y ∙ sym zero_x;
        });
        answer = same-reply view m Take (reply.Frame f);
      }

  gives : (f : ℕ) → IsStep view m (Give f) (effect m (Give f)) (effect (beside m ys) (Give f))
  gives f =
      let x = frame_at m f in
      let y = frame_at (beside m ys) f in
      let share = share-alike _ _ _ (alike f) in
      let gfn = ap (λ (c : Custody). c.gfn) (alike f).custody in
      record {
        states = one f (record x { owner = Free; present = false; bytes = zero_page }) (record y { owner = Free; present = false; bytes = zero_page }) (m.free ++ f ∷ []) (record {
          custody = rw (share, gfn) refl;
          bytes = λ h. refl;
        });
        answer = same-reply view m (Give f) reply.Done;
      }

  plain-present : IsPlain (λ x. record x { present = true })
  plain-present = record {
    owner = λ x. refl;
    gfn = λ x. refl;
    custody = λ x y same. ap (λ (c : Custody). record c { present = true }) same;
    bytes = λ x y same. same;
  }

  length-range : (xs zs : List ℕ) (off len : ℕ) → length zs ≡ length xs → length (slice_range zs off (off + len)) ≡ length (slice_range xs off (off + len))
  length-range xs zs off len same = simp (length-take, length-drop) (omega (arith, same))

  read-alike : (call : Call) (f off len : ℕ) → is_read call ≡ true → refusal m call ≡ None → touched m call ≡ Some f → IsReply view m call (read (frame_at m f) off len) (read (frame_at (beside m ys) f) off len)
  read-alike call f off len reads served shown = record {
    form = ap (λ n. reply.Data (replicate n 0)) (length-range (frame_at m f).bytes (frame_at (beside m ys) f).bytes off len (whole (beside m ys) other_is f ∙ sym (whole m is f)));
    whole = λ h. ap (λ (bytes : List ℕ). reply.Data (slice_range bytes off (off + len))) ((alike f).bytes (h reads served f shown));
  }

  -- bytes are written to a frame
  writes-frame : (f off : ℕ) (bytes other : List ℕ) → (seen view m f (frame_at m f) ≡ true → other ≡ bytes) → Alike view (written m f off bytes) (written (beside m ys) f off other)
  writes-frame f off bytes other same =
      let x = frame_at m f in
      one f (record x { bytes = overwritten x.bytes off bytes }) (record (frame_at (beside m ys) f) { bytes = overwritten (frame_at (beside m ys) f).bytes off other }) m.free
      (record { custody = (alike f).custody; bytes = λ h. ap₂ (λ old new. overwritten old off new) ((alike f).bytes h) (same h) })

  slot : (w : ℕ) (change : Slot → Slot) → (is_active (slot_at m w).phase ≡ true → is_active (change (slot_at m w)).phase ≡ true) → Alike view (with_slot m w (change (slot_at m w))) (with_slot (beside m ys) w (change (slot_at m w)))
  slot w change stays = differ-slot view m (beside m ys) w change stays both

  -- a slot that keeps its phase
  still : {p : Bool} → p ≡ true → p ≡ true
  still h = h

  reads : (v c g off len : ℕ) (at : Option ℕ) → refusal m (GuestRead v c g off len) ≡ None → mapped_at m v g ≡ at → IsStep view m (GuestRead v c g off len) (guest_read m v c g off len at) (guest_read (beside m ys) v c g off len at)
  reads v c g off len None served e = record { states = slot v (λ s. awaiting s c (Some g)) still; answer = same-reply view m (GuestRead v c g off len) (reply.Fault g) }
  reads v c g off len (Some f) served e = record { states = slot v (λ s. awaiting s c None) still; answer = read-alike (GuestRead v c g off len) f off len refl served e }

  writes : (v c g off : ℕ) (bytes other : List ℕ) (at : Option ℕ) → ((f : ℕ) → at ≡ Some f → seen view m f (frame_at m f) ≡ true → other ≡ bytes) → IsStep view m (GuestWrite v c g off bytes) (guest_written m v c g off bytes at) (guest_written (beside m ys) v c g off other at)
  writes v c g off bytes other None same = record { states = slot v (λ s. awaiting s c (Some g)) still; answer = same-reply view m (GuestWrite v c g off bytes) (reply.Fault g) }
  writes v c g off bytes other (Some f) same = record {
    states = differ-slot view (written m f off bytes) (written (beside m ys) f off other) v (λ s. awaiting s c None) still (writes-frame f off bytes other (same f refl));
    answer = same-reply view m (GuestWrite v c g off bytes) reply.Done;
  }

  -- a frame of the host's is handed to a slot
  hands : (v g f : ℕ) → (frame_at m f).owner ≡ Host → (sees view m f (Vm v) (Some g) ≡ true → view.kept f ≡ true) → Alike view (hand m v g f) (hand (beside m ys) v g f)
  hands v g f host seen =
      let x = frame_at m f in
      let y = frame_at (beside m ys) f in
      let share = share-alike _ _ _ (alike f) in
      differ-slot view (with_frame m f (record x { owner = Vm v; gfn = Some g; present = false })) (with_frame (beside m ys) f (record y { owner = Vm v; gfn = Some g; present = false })) v
      (λ s. record s { frames = s.frames ++ f ∷ []; mapped = map.insert s.mapped g f; leaves = with_leaf s.leaves g }) still
      (one f (record x { owner = Vm v; gfn = Some g; present = false }) (record y { owner = Vm v; gfn = Some g; present = false }) m.free (record {
        custody = rw share refl;
        bytes = λ h. (alike f).bytes (ap (λ o. sees view m f o x.gfn) host ∙ seen h);
      }))

  remaps : (v i f : ℕ) → keeps_images view.kept (Remap v i f) ≡ true → (frame_at m f).owner ≡ Host → IsStep view m (Remap v i f) (effect m (Remap v i f)) (effect (beside m ys) (Remap v i f))
  remaps v i f keeps host =
      let g = next_gfn m v i in
      let images = set (slot_at m v).images i (record (image_at m v i) { pages = (image_at m v i).pages + 1 }) in
      record {
        states = differ-slot view (hand m v g f) (hand (beside m ys) v g f) v (λ s. record s { images = images }) still (hands v g f host (λ h. keeps));
        answer = same-reply view m (Remap v i f) reply.Done;
      }

  hidden-not : (hides active : Bool) → hides ≡ true → active ≡ true → not (hides && active) ≡ true → ⊥
  hidden-not hides active one two h = cc

  maps : (v c f : ℕ) → IsView view → (slot_at m v).phase ≡ Active → (frame_at m f).owner ≡ Host → IsStep view m (Map v c f) (effect m (Map v c f)) (effect (beside m ys) (Map v c f))
  maps v c f is_view active host =
      let g = pending m v c in
      record {
        states = differ-slot view (hand m v g f) (hand (beside m ys) v g f) v (λ s. awaiting s c None) still (hands v g f host (λ h. elim (is_view f v g) [
          | inl kept ↦ kept
          | inr hides ↦ absurd (hidden-not (view.hides v (Some g)) (is_active (slot_at m v).phase) hides (ap is_active active) h)
        ]));
        answer = same-reply view m (Map v c f) reply.Done;
      }

  plain-granted : IsPlain granted
  plain-granted = record {
    owner = λ x. refl;
    gfn = λ x. refl;
    custody = λ x y same. ap (λ (c : Custody). record c { share = c.share + 1 }) same;
    bytes = λ x y same. same;
  }

  plain-revoked : IsPlain revoked
  plain-revoked = record {
    owner = λ x. refl;
    gfn = λ x. refl;
    custody = λ x y same. ap (λ (c : Custody). custody_of (revoked (record { owner = c.owner; gfn = c.gfn; share = c.share; present = c.present; bytes = [] }))) same;
    bytes = λ x y same. same;
  }

  drops : (v g : ℕ) → Alike view (dropped m v g (backing (mapped_at m v g))) (dropped (beside m ys) v g (backing (mapped_at m v g)))
  drops v g =
      let f = backing (mapped_at m v g) in
      let x = frame_at m f in
      let y = frame_at (beside m ys) f in
      let share = share-alike _ _ _ (alike f) in
      differ-slot view (freed m f) (freed (beside m ys) f) v (λ s. record s { frames = without s.frames f; mapped = map.remove s.mapped g }) still
      (one f (record x { owner = Free; gfn = None; present = false; bytes = zero_page }) (record y { owner = Free; gfn = None; present = false; bytes = zero_page }) (m.free ++ f ∷ []) (record {
        custody = rw share refl;
        bytes = λ h. refl;
      }))

  clears : (w : ℕ) → w < slot_count m.config → Alike view (cleared m w) (cleared (beside m ys) w)
  clears w w_in = record {
    config = refl;
    free = refl;
    slots = refl;
    number = length-scrubbed ys (slot_at m w).frames ∙ number ∙ sym (length-scrubbed m.frames (slot_at m w).frames);
    frames = λ f. elim (after m w f is w_in) [
      | inl mine ↦ elim (after (beside m ys) w f other_is w_in) [
        | inl also ↦ record { custody = ap custody_of (also.1 ∙ sym mine.1); bytes = λ h. ap (λ (x : Frame). x.bytes) (also.1 ∙ sym mine.1) }
        | inr differ ↦ absurd (differ.0 (owner-alike _ _ _ (alike f) ∙ mine.0))
      ]
      | inr theirs ↦ elim (after (beside m ys) w f other_is w_in) [
        | inl differ ↦ absurd (theirs.0 (sym (owner-alike _ _ _ (alike f)) ∙ differ.0))
        | inr also ↦ record {
          custody = ap custody_of also.1 ∙ (alike f).custody ∙ sym (ap custody_of theirs.1);
          bytes = λ h. ap (λ (x : Frame). x.bytes) also.1 ∙ (alike f).bytes (seen-before f (frame_at m f).owner (frame_at m f).gfn theirs.0 (sym (ap (λ (x : Frame). seen view (cleared m w) f x) theirs.1) ∙ h)) ∙ sym (ap (λ (x : Frame). x.bytes) theirs.1);
        }
      ]
    ];
  }
    where
      seen-before : (f : ℕ) (owner : Owner) (gfn : Option ℕ) → (owner ≡ Vm w → ⊥) → sees view (cleared m w) f owner gfn ≡ true → sees view m f owner gfn ≡ true
      seen-before f Core gfn ne h = h
      seen-before f Host gfn ne h = h
      seen-before f Free gfn ne h = h
      seen-before f (Vm v) gfn ne h = sym (ap (λ (s : Slot). not (view.hides v gfn && is_active s.phase)) (slot-kept m w v (λ e. ne (ap Vm e)))) ∙ h

  -- measuring

  idle-seen : (hides active : Bool) → active ≡ false → not (hides && active) ≡ true
  idle-seen true active idle = ap not idle
  idle-seen false active idle = refl

  -- the bytes of an image of a slot that boots, which has all its pages
  pub image-same : (w : ℕ) → w < slot_count m.config → (slot_at m w).phase ≡ Booting → list_any is_short (slot_at m w).images ≡ false → (i : ℕ) (d : Image) → i < length (slot_at m w).images
      → image_bytes (beside m ys) w (get_or (slot_at m w).images i d) ≡ image_bytes m w (get_or (slot_at m w).images i d)
  image-same w w_in booting full i d lt =
      let images = (slot_at m w).images in
      let image = get_or images i d in
      let there = is.each_slot w w_in in
      let full_here = none-at is_short images i d lt full in
      let page : (g : ℕ) → image.base ≤ g → g < image.base + pages_of image.len → bytes_at (beside m ys) w g ≡ bytes_at m w g = λ g low high.
      (let mapped = backing-of (mapped_at m w g) (there.booting booting g ∙ list_any_at (holds g) images i d lt (held image g full_here low high)) in
      let f = backing (mapped_at m w g) in
      let owner = owner-mapped m w g f is w_in mapped in
      (alike f).bytes (ap (λ o. sees view m f o (frame_at m f).gfn) owner ∙ idle-seen (view.hides w (frame_at m f).gfn) (is_active (slot_at m w).phase) (ap is_active booting))) in
      ap (take image.len) (pages-same (bytes_at (beside m ys) w) (bytes_at m w) image.base (pages_of image.len) page)

plain-trimmed : (image : Image) → IsPlain (λ x. record x { bytes = take ((image.len - 1) % 4096 + 1) x.bytes ++ replicate (4096 - ((image.len - 1) % 4096 + 1)) 0 })
plain-trimmed image = record {
  owner = λ x. refl;
  gfn = λ x. refl;
  custody = λ x y same. same;
  bytes = λ x y same. ap (λ (old : List ℕ). take ((image.len - 1) % 4096 + 1) old ++ replicate (4096 - ((image.len - 1) % 4096 + 1)) 0) same;
}

trims : (view : View) (m : State) (ys : List Frame) (w : ℕ) (images : List Image) → length ys ≡ length m.frames → AlikeFrames view m m.frames ys → Alike view (all_trimmed m w images) (all_trimmed (beside m ys) w images)
trims view m ys w [] number alike = record { config = refl; free = refl; slots = refl; number = number; frames = alike }
trims view m ys w (image ∷ images) number alike =
    let f = backing (mapped_at m w (image.base + pages_of image.len - 1)) in
    let change : Frame → Frame = λ x. record x { bytes = take ((image.len - 1) % 4096 + 1) x.bytes ++ replicate (4096 - ((image.len - 1) % 4096 + 1)) 0 } in
    trims view (trimmed m w image) (set ys f (change (get_or ys f (untouched Core)))) w images (number-set m.frames ys f _ _ number) (frames-changed view m m.frames ys f change (plain-trimmed image) number alike)

verifies : (view : View) (m : State) (ys : List Frame) (w : ℕ) (first : Option ℕ) → length ys ≡ length m.frames → AlikeFrames view m m.frames ys → (slot_at m w).phase ≡ Booting → IsStep view m (Verify w) (verified m w first) (verified (beside m ys) w first)
verifies view m ys w None number alike booting = record {
  states = differ-slot view (all_trimmed m w (slot_at m w).images) (all_trimmed (beside m ys) w (slot_at m w).images) w (λ s. in_phase s Active) (λ h. refl) (trims view m ys w (slot_at m w).images number alike);
  answer = same-reply view m (Verify w) reply.Done;
}
verifies view m ys w (Some i) number alike booting = record {
  states = differ-slot view m (beside m ys) w (λ s. in_phase s Dead) (λ h. let none = ap is_active booting in absurd cc) (record { config = refl; free = refl; slots = refl; number = number; frames = alike });
  answer = same-reply view m (Verify w) (reply.Rejected i);
}

step-effect : (view : View) (m : State) (ys : List Frame) (call : Call) (other : List ℕ) → IsView view → IsLawful m → IsLawful (beside m ys) → length ys ≡ length m.frames → AlikeFrames view m m.frames ys → MayWrite view m call other → keeps_images view.kept call ≡ true → refusal m call ≡ None
    → IsStep view m call (effect m call) (effect (beside m ys) (with_bytes call other))
step-effect view m ys Take other is_view is other_is number alike may keeps served = takes view m ys is other_is number alike m.free refl
step-effect view m ys (Give f) other is_view is other_is number alike may keeps served = gives view m ys is other_is number alike f
step-effect view m ys (HostFault f) other is_view is other_is number alike may keeps served = record { states = changed view m ys is other_is number alike f (λ x. record x { present = true }) (plain-present view m ys is other_is number alike); answer = same-reply view m (HostFault f) reply.Done }
step-effect view m ys (HostRead f off len) other is_view is other_is number alike may keeps served = record { states = both view m ys is other_is number alike; answer = read-alike view m ys is other_is number alike (HostRead f off len) f off len refl served refl }
step-effect view m ys (HostWrite f off bytes) other is_view is other_is number alike may keeps served = record { states = writes-frame view m ys is other_is number alike f off bytes other (may.same served f refl); answer = same-reply view m (HostWrite f off bytes) reply.Done }
step-effect view m ys (RegisterVm w) other is_view is other_is number alike may keeps served =
    let empty = was-empty m w _ (none-of (conditions m (RegisterVm w)) served 1) in
    record { states = slot view m ys is other_is number alike w (λ s. in_phase s Booting) (λ h. let none = ap is_active empty in absurd cc); answer = same-reply view m (RegisterVm w) reply.Done }
step-effect view m ys (RegisterVcpu w c) other is_view is other_is number alike may keeps served = record { states = slot view m ys is other_is number alike w (λ s. with_vcpu s c (record { registered = true; fault = None })) (λ h. h); answer = same-reply view m (RegisterVcpu w c) reply.Done }
step-effect view m ys (SetBoot w base len) other is_view is other_is number alike may keeps served = record { states = slot view m ys is other_is number alike w (λ s. with_image s base len) (λ h. h); answer = same-reply view m (SetBoot w base len) (reply.Image (length (slot_at m w).images)) }
step-effect view m ys (Remap w i f) other is_view is other_is number alike may keeps served = remaps view m ys is other_is number alike w i f keeps (remap-served m w i f served).host
step-effect view m ys (Verify w) other is_view is other_is number alike may keeps served =
    let seen = verify-served m w served in
    let first = unapproved-same (beside m ys) m w (record { version = refl; approved = refl; images = refl; bytes = image-same view m ys is other_is number alike w seen.0 seen.1 seen.2 }) in
    subst (λ at. IsStep view m (Verify w) (verified m w (unapproved m w)) (verified (beside m ys) w at)) (sym first)
    (verifies view m ys w (unapproved m w) number alike seen.1)
step-effect view m ys (Map w c f) other is_view is other_is number alike may keeps served = let seen = map-served m w c f served in maps view m ys is other_is number alike w c f is_view seen.active seen.host
step-effect view m ys (GuestRead w c g off len) other is_view is other_is number alike may keeps served = reads view m ys is other_is number alike w c g off len (mapped_at m w g) served refl
step-effect view m ys (GuestWrite w c g off bytes) other is_view is other_is number alike may keeps served = writes view m ys is other_is number alike w c g off bytes other (mapped_at m w g) (may.same served)
step-effect view m ys (Grant w c g) other is_view is other_is number alike may keeps served = record { states = each view m ys is other_is number alike w (g ∷ []) granted (plain-granted view m ys is other_is number alike); answer = same-reply view m (Grant w c g) reply.Done }
step-effect view m ys (Revoke w c g) other is_view is other_is number alike may keeps served = record { states = each view m ys is other_is number alike w (g ∷ []) revoked (plain-revoked view m ys is other_is number alike); answer = same-reply view m (Revoke w c g) reply.Done }
step-effect view m ys (GrantRange w c g n) other is_view is other_is number alike may keeps served = record { states = each view m ys is other_is number alike w (range_with_len g n) granted (plain-granted view m ys is other_is number alike); answer = same-reply view m (GrantRange w c g n) reply.Done }
step-effect view m ys (RevokeRange w c g n) other is_view is other_is number alike may keeps served = record { states = each view m ys is other_is number alike w (range_with_len g n) revoked (plain-revoked view m ys is other_is number alike); answer = same-reply view m (RevokeRange w c g n) reply.Done }
step-effect view m ys (Drop w c g) other is_view is other_is number alike may keeps served = record { states = drops view m ys is other_is number alike w g; answer = same-reply view m (Drop w c g) reply.Done }
step-effect view m ys (Clear w) other is_view is other_is number alike may keeps served = record { states = clears view m ys is other_is number alike w (vm-in m w (none-of (conditions m (Clear w)) served 0)); answer = same-reply view m (Clear w) reply.Done }

step-unless : (refused : Option Refusal) (view : View) (m : State) (ys : List Frame) (call : Call) (other : List ℕ) → IsView view → IsLawful m → IsLawful (beside m ys) → length ys ≡ length m.frames → AlikeFrames view m m.frames ys → MayWrite view m call other → keeps_images view.kept call ≡ true → refusal m call ≡ refused
    → IsStep view m call (unless_refused refused m call) (unless_refused refused (beside m ys) (with_bytes call other))
step-unless None view m ys call other is_view is other_is number alike may keeps served = step-effect view m ys call other is_view is other_is number alike may keeps served
step-unless (Some r) view m ys call other is_view is other_is number alike may keeps served = record { states = record { config = refl; free = refl; slots = refl; number = number; frames = alike }; answer = same-reply view m call (reply.Refused r) }

step-beside : (view : View) (m : State) (ys : List Frame) (call : Call) (other : List ℕ) → IsView view → IsLawful m → IsLawful (beside m ys) → length ys ≡ length m.frames → AlikeFrames view m m.frames ys → MayWrite view m call other → keeps_images view.kept call ≡ true
    → IsStep view m call (next m call) (next (beside m ys) (with_bytes call other))
unfolding next
step-beside view m ys call other is_view is other_is number alike may keeps =
    subst (λ refused. IsStep view m call (unless_refused (refusal m call) m call) (unless_refused refused (beside m ys) (with_bytes call other))) (sym (refusal-alike view m ys call other alike may.number))
    (step-unless (refusal m call) view m ys call other is_view is other_is number alike may keeps refl)

-- the call on both states, with other bytes on the second
pub step : (view : View) (m n : State) (call : Call) (other : List ℕ) → IsView view → IsLawful m → IsLawful n → Alike view m n → MayWrite view m call other → keeps_images view.kept call ≡ true → IsStep view m call (next m call) (next n (with_bytes call other))
step view m n call other is_view is other_is differ may keeps =
    let same = beside-is view m n differ in
    subst (λ (x : State). IsStep view m call (next m call) (next x (with_bytes call other))) same
    (step-beside view m n.frames call other is_view is (subst IsLawful (sym same) other_is) differ.number differ.frames may keeps)

-- the call is refused on both, for the same reason, or on neither
pub refusal-same : (view : View) (m n : State) (call : Call) (other : List ℕ) → Alike view m n → length other ≡ length (bytes_of call) → refusal n (with_bytes call other) ≡ refusal m call
refusal-same view m n call other differ many =
    ap (λ (x : State). refusal x (with_bytes call other)) (sym (beside-is view m n differ)) ∙ refusal-alike view m n.frames call other differ.frames many
