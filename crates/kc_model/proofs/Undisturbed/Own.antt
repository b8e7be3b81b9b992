-- A call that names the VM, in two states in which it has the same.
use Rattle.std.proofs.Common.{ℕ, zero, suc, ◌≡◌, ◌<◌, ◌≤◌, ◌+◌, ◌-◌, ◌%◌, inl, inr, Bool, true, false, List, [], ◌∷◌, ◌++◌, length, take, replicate, slice_range, get_or, is_none, refl, sym, ap, subst, ◌∙◌, arith, All, Option, None, Some, get_or-set_same, cond}
use Rattle.std.proofs.lemmas.Bool.{cases_eq}
use Rattle.std.proofs.lemmas.Option.{same_Some}
use Rattle.std.specs.List.{list_any, range_with_len}
use Rattle.std.specs.FinMap as map
use Rattle.std.specs.Ordering.{nat_cmp}
use Rattle.sha2.specs.Sha256.{sha256}
use Rattle.kc_types.specs.Configuration.{slot_count}
use Rattle.kc_types.specs.declared.version.Version.{Version}
use Rattle.kc_types.proofs.Ranges.{same-version}
use Rattle.kc_types.specs.declared.call.Call.{Call}
use Rattle.kc_types.specs.declared.call.Call.TheVariants.{RegisterVm, RegisterVcpu, SetBoot, Verify, GuestRead, GuestWrite, Grant, Revoke, GrantRange, RevokeRange, Drop, Clear}
use Rattle.kc_types.specs.declared.reply.Reply.TheVariants as reply
use Rattle.kc_types.specs.declared.slot.Phase.TheVariants.{Booting, Active, Dead}
use Rattle.kc_types.specs.declared.owner.Owner.TheVariants as owner
use Rattle.kc_model.specs.State.{State, Frame, Slot, SlotOf, Image, frame_at, slot_at, mapped_at, with_frame, with_slot, no_slot, empty_slot, overwritten, untouched}
use Rattle.kc_model.specs.Slot.{in_phase, awaiting, with_image, with_vcpu}
use Rattle.kc_model.specs.Refusals.{refusal, backing, is_short, pages_of}
use Rattle.kc_model.specs.Effects.{Outcome, effect, guest_read, guest_written, granted, revoked, with_each, trimmed, all_trimmed, verified, unapproved, image_bytes, bytes_at, dropped, freed, cleared}
use Rattle.kc_model.specs.Lawful.{IsLawful, holds}
use Rattle.kc_model.specs.Undisturbed.{Page, page_of, page_under, page_at, own_slot, HasTheSame, watched_reply}
use Rattle.kc_model.proofs.States.Tables.{gone-here, gone-elsewhere}
use Rattle.kc_model.proofs.States.Approvals.{unapproved-same}
use Rattle.kc_model.proofs.States.Changes.{slot-here}
use Rattle.kc_model.proofs.Lawful.GuestCalls.{guest_frame-served}
use Rattle.kc_model.proofs.Lawful.RangeCalls.{guest_range-served}
use Rattle.kc_model.proofs.Lawful.Verifies.{HasLastPage, last_gfn, each_last_page, verify-served, slots-trimmed, backing-of}
use Rattle.kc_model.proofs.Local.VerifyLocal.{pages-same}
use Rattle.kc_model.proofs.States.Slots.{none-at}
use Rattle.kc_model.proofs.Views.Steps.{held}
use Rattle.std.proofs.lemmas.List.Folds.{list_any_at}
use Rattle.kc_model.proofs.Undisturbed.Pages.{HasFrames, frames-with, changed-same, slots-same, under-none, under-page, page-by, page-bytes, page-other}

-- the VM has the same after both, and is answered the same, except for reads of what is not watched
pub record IsAlike (s : ℕ → Bool) (v : ℕ) (call : Call) (a b : Outcome) : Type 0 where
  pub state : HasTheSame s v a.1 b.1
  pub answer : watched_reply s call a.0 ≡ watched_reply s call b.0

-- a part of bytes that are the same if they are watched
watched-range : (b : Bool) (p q : List ℕ) (from to : ℕ) → cond b p [] ≡ cond b q [] → cond b (slice_range p from to) [] ≡ cond b (slice_range q from to) []
watched-range true p q from to e = ap (λ bytes. slice_range bytes from to) e
watched-range false p q from to e = refl

module _ (s : ℕ → Bool) (v : ℕ) (m n : State) (same : HasTheSame s v m n) (here : HasFrames v m) (there : HasFrames v n) (lt : v < length m.slots) (in_n : v < length n.slots) where
  by-slot : (change : SlotOf (Unit {0}) → SlotOf (Unit {0})) (a b : Slot) → own_slot a ≡ change (own_slot (slot_at m v)) → own_slot b ≡ change (own_slot (slot_at n v)) → a.mapped ≡ (slot_at m v).mapped → b.mapped ≡ (slot_at n v).mapped
      → HasTheSame s v (with_slot m v a) (with_slot n v b)
  by-slot change a b first second at bt = slots-same s v m n a b same lt in_n (first ∙ ap change same.slot ∙ sym second) at bt

  pub own-register : IsAlike s v (RegisterVm v) (effect m (RegisterVm v)) (effect n (RegisterVm v))
  own-register = record { state = by-slot (λ x. in_phase x Booting) (in_phase (slot_at m v) Booting) (in_phase (slot_at n v) Booting) refl refl refl refl; answer = refl }

  pub own-vcpu : (c : ℕ) → IsAlike s v (RegisterVcpu v c) (effect m (RegisterVcpu v c)) (effect n (RegisterVcpu v c))
  own-vcpu c = record { state = by-slot (λ x. with_vcpu x c (record { registered = true; fault = None })) _ _ refl refl refl refl; answer = refl }

  pub own-boot : (base len : ℕ) → IsAlike s v (SetBoot v base len) (effect m (SetBoot v base len)) (effect n (SetBoot v base len))
  own-boot base len = record { state = by-slot (λ x. with_image x base len) _ _ refl refl refl refl; answer = ap (λ (x : SlotOf (Unit {0})). reply.Image (length x.images)) same.slot }

  reads : (c g off len : ℕ) (at bt : Option ℕ) → page_under s m.frames g at ≡ page_under s n.frames g bt → IsAlike s v (GuestRead v c g off len) (guest_read m v c g off len at) (guest_read n v c g off len bt)
  reads c g off len None None e = record { state = by-slot (λ x. awaiting x c (Some g)) _ _ refl refl refl refl; answer = refl }
  reads c g off len None (Some k) e = absurd cc
  reads c g off len (Some f) None e = absurd cc
  reads c g off len (Some f) (Some k) e = record {
    state = by-slot (λ x. awaiting x c None) _ _ refl refl refl refl;
    answer = ap reply.Data (watched-range (s g) (frame_at m f).bytes (frame_at n k).bytes off (off + len) (ap (λ (p : Page). p.bytes) (same_Some _ _ e)));
  }

  pub own-read : (c g off len : ℕ) → IsAlike s v (GuestRead v c g off len) (effect m (GuestRead v c g off len)) (effect n (GuestRead v c g off len))
  own-read c g off len = reads c g off len (mapped_at m v g) (mapped_at n v g) (same.pages g)

  -- a frame at a mapped guest frame is changed
  pub at-frame : (g : ℕ) (change : Frame → Frame) → ((x y : Frame) → page_of s g x ≡ page_of s g y → page_of s g (change x) ≡ page_of s g (change y)) → (f k : ℕ) → mapped_at m v g ≡ Some f → mapped_at n v g ≡ Some k
      → HasTheSame s v (with_frame m f (change (frame_at m f))) (with_frame n k (change (frame_at n k)))
  at-frame g change keeps f k at bt =
      let pages : page_of s g (frame_at m f) ≡ page_of s g (frame_at n k) = same_Some _ _ (ap (page_under s m.frames g) (sym at) ∙ same.pages g ∙ ap (page_under s n.frames g) bt) in
      changed-same s v m n g f k _ _ same here there at bt (keeps (frame_at m f) (frame_at n k) pages)

-- the guest frame is mapped in the other state too
pub mapped-too : (s : ℕ → Bool) (v : ℕ) (m n : State) (g : ℕ) → HasTheSame s v m n → mapped_at m v g ≡ Some (backing (mapped_at m v g)) → mapped_at n v g ≡ Some (backing (mapped_at n v g))
mapped-too s v m n g same at = by-case (mapped_at n v g) (sym (under-none s m.frames n.frames g (mapped_at m v g) (mapped_at n v g) (same.pages g)) ∙ ap is_none at)
  where
    by-case : (bt : Option ℕ) → is_none bt ≡ false → bt ≡ Some (backing bt)
    by-case (Some k) h = refl
    by-case None h = absurd cc

module _ (s : ℕ → Bool) (v : ℕ) (m n : State) (same : HasTheSame s v m n) (here : HasFrames v m) (there : HasFrames v n) (lt : v < length m.slots) (in_n : v < length n.slots) where
  writes : (c g off : ℕ) (bytes : List ℕ) (at bt : Option ℕ) → mapped_at m v g ≡ at → mapped_at n v g ≡ bt → page_under s m.frames g at ≡ page_under s n.frames g bt → IsAlike s v (GuestWrite v c g off bytes) (guest_written m v c g off bytes at) (guest_written n v c g off bytes bt)
  writes c g off bytes None None at bt e = record { state = slots-same s v m n _ _ same lt in_n (ap (λ (x : SlotOf (Unit {0})). awaiting x c (Some g)) same.slot) refl refl; answer = refl }
  writes c g off bytes None (Some k) at bt e = absurd cc
  writes c g off bytes (Some f) None at bt e = absurd cc
  writes c g off bytes (Some f) (Some k) at bt e =
      let wrote = at-frame s v m n same here there lt in_n g (λ x. record x { bytes = overwritten x.bytes off bytes }) (λ x y p. page-by s g x y (λ b. overwritten b off bytes) p) f k at bt in
      record { state = slots-same s v _ _ _ _ wrote lt in_n (ap (λ (x : SlotOf (Unit {0})). awaiting x c None) same.slot) refl refl; answer = refl }

  pub own-write : (c g off : ℕ) (bytes : List ℕ) → IsAlike s v (GuestWrite v c g off bytes) (effect m (GuestWrite v c g off bytes)) (effect n (GuestWrite v c g off bytes))
  own-write c g off bytes = writes c g off bytes (mapped_at m v g) (mapped_at n v g) refl refl (same.pages g)

granted-page : (s : ℕ → Bool) (g : ℕ) (x y : Frame) → page_of s g x ≡ page_of s g y → page_of s g (granted x) ≡ page_of s g (granted y)
granted-page s g x y e = ap (λ (p : Page). record { share = p.share + 1; bytes = p.bytes }) e

revoked-page : (s : ℕ → Bool) (g : ℕ) (x y : Frame) → page_of s g x ≡ page_of s g y → page_of s g (revoked x) ≡ page_of s g (revoked y)
revoked-page s g x y e = ap (λ (p : Page). record { share = (revoked (record (untouched owner.Core) { share = p.share })).share; bytes = p.bytes }) e

-- the frames at a range of mapped guest frames are changed
each-same : (s : ℕ → Bool) (v : ℕ) (change : Frame → Frame) → ((g : ℕ) (x y : Frame) → page_of s g x ≡ page_of s g y → page_of s g (change x) ≡ page_of s g (change y)) → (m n : State) (g k : ℕ) → HasTheSame s v m n → HasFrames v m → HasFrames v n → v < length m.slots → v < length n.slots
    → ((h : ℕ) → g ≤ h → h < g + k → mapped_at m v h ≡ Some (backing (mapped_at m v h))) → HasTheSame s v (with_each m v (range_with_len g k) change) (with_each n v (range_with_len g k) change)
each-same s v change keeps m n g zero same here there lt in_n mapped = record { slots = same.slots; leaves = same.leaves; approved = same.approved; slot = same.slot; pages = same.pages }
each-same s v change keeps m n g (suc k) same here there lt in_n mapped =
    let at = mapped g (omega arith) (omega arith) in
    let bt = mapped-too s v m n g same at in
    let f = backing (mapped_at m v g) in
    let j = backing (mapped_at n v g) in
    each-same s v change keeps (with_frame m f (change (frame_at m f))) (with_frame n j (change (frame_at n j))) (g + 1) k (at-frame s v m n same here there lt in_n g change (keeps g) f j at bt) (frames-with m v f _ here) (frames-with n v j _ there) lt in_n
    (λ h low high. mapped h (omega (arith, low)) (omega (arith, high)))

-- the images are trimmed
trims : (s : ℕ → Bool) (v : ℕ) (m n : State) (images : List Image) → HasTheSame s v m n → HasFrames v m → HasFrames v n → v < length m.slots → v < length n.slots → All (HasLastPage m v) images → HasTheSame s v (all_trimmed m v images) (all_trimmed n v images)
trims s v m n [] same here there lt in_n mapped = same
trims s v m n (image ∷ images) same here there lt in_n mapped =
    let g = last_gfn image in
    let at = mapped zero image (omega arith) in
    let bt = mapped-too s v m n g same at in
    let f = backing (mapped_at m v g) in
    let k = backing (mapped_at n v g) in
    let kept = (image.len - 1) % 4096 + 1 in
    let one = at-frame s v m n same here there lt in_n g (λ x. record x { bytes = take kept x.bytes ++ replicate (4096 - kept) 0 }) (λ x y p. page-by s g x y (λ b. take kept b ++ replicate (4096 - kept) 0) p) f k at bt in
    trims s v (trimmed m v image) (trimmed n v image) images one (frames-with m v f _ here) (frames-with n v k _ there) lt in_n (λ i d low. mapped (suc i) d (omega arith))

module _ (s : ℕ → Bool) (v : ℕ) (m n : State) (same : HasTheSame s v m n) (here : HasFrames v m) (there : HasFrames v n) (lt : v < length m.slots) (in_n : v < length n.slots) where
  one : (change : Frame → Frame) (g : ℕ) → ((x y : Frame) → page_of s g x ≡ page_of s g y → page_of s g (change x) ≡ page_of s g (change y)) → mapped_at m v g ≡ Some (backing (mapped_at m v g)) → HasTheSame s v (with_each m v (g ∷ []) change) (with_each n v (g ∷ []) change)
  one change g keeps at = at-frame s v m n same here there lt in_n g change keeps (backing (mapped_at m v g)) (backing (mapped_at n v g)) at (mapped-too s v m n g same at)

  pub own-grant : (c g : ℕ) → refusal m (Grant v c g) ≡ None → IsAlike s v (Grant v c g) (effect m (Grant v c g)) (effect n (Grant v c g))
  own-grant c g served = record { state = one granted g (granted-page s g) (guest_frame-served m v c g _ served).0.mapped; answer = refl }

  pub own-revoke : (c g : ℕ) → refusal m (Revoke v c g) ≡ None → IsAlike s v (Revoke v c g) (effect m (Revoke v c g)) (effect n (Revoke v c g))
  own-revoke c g served = record { state = one revoked g (revoked-page s g) (guest_frame-served m v c g _ served).0.mapped; answer = refl }

  pub own-grants : (c g k : ℕ) → refusal m (GrantRange v c g k) ≡ None → IsAlike s v (GrantRange v c g k) (effect m (GrantRange v c g k)) (effect n (GrantRange v c g k))
  own-grants c g k served = record { state = each-same s v granted (granted-page s) m n g k same here there lt in_n (guest_range-served m v c g k _ served).0.mapped; answer = refl }

  pub own-revokes : (c g k : ℕ) → refusal m (RevokeRange v c g k) ≡ None → IsAlike s v (RevokeRange v c g k) (effect m (RevokeRange v c g k)) (effect n (RevokeRange v c g k))
  own-revokes c g k served = record { state = each-same s v revoked (revoked-page s) m n g k same here there lt in_n (guest_range-served m v c g k _ served).0.mapped; answer = refl }

  -- a page that is dropped, and the others
  drop-here : (x : State) (g f : ℕ) → v < length x.slots → page_at s (dropped x v g f) v g ≡ None
  drop-here x g f within =
      ap (λ (y : Slot). page_under s (freed x f).frames g (map.get y.mapped g)) (slot-here (freed x f) v _ within) ∙ ap (page_under s (freed x f).frames g) (gone-here (slot_at x v).mapped g)

  drop-away : (x : State) (g f h : ℕ) → v < length x.slots → HasFrames v x → mapped_at x v g ≡ Some f → (h ≡ g → ⊥) → page_at s (dropped x v g f) v h ≡ page_at s x v h
  drop-away x g f h within has at ne =
      ap (λ (y : Slot). page_under s (freed x f).frames h (map.get y.mapped h)) (slot-here (freed x f) v _ within) ∙ ap (page_under s (freed x f).frames h) (gone-elsewhere (slot_at x v).mapped g h ne)
      ∙ page-other s x.frames f _ h (mapped_at x v h) (λ j e. has.apart g h f j at e ne)

  pub own-drop : (c g : ℕ) → refusal m (Drop v c g) ≡ None → IsAlike s v (Drop v c g) (effect m (Drop v c g)) (effect n (Drop v c g))
  own-drop c g served =
      let f = backing (mapped_at m v g) in
      let k = backing (mapped_at n v g) in
      let at = (guest_frame-served m v c g _ served).0.mapped in
      let bt = mapped-too s v m n g same at in
      record {
        state = record {
          slots = same.slots;
          leaves = same.leaves;
          approved = same.approved;
          slot = ap own_slot (slot-here (freed m f) v _ lt) ∙ same.slot ∙ sym (ap own_slot (slot-here (freed n k) v _ in_n));
          pages = λ h. elim (cases_eq h g) [
            | inl is ↦ subst (λ j. page_at s (dropped m v g f) v j ≡ page_at s (dropped n v g k) v j) (sym is) (drop-here m g f lt ∙ sym (drop-here n g k in_n))
            | inr ne ↦ drop-away m g f h lt here at ne ∙ same.pages h ∙ sym (drop-away n g k h in_n there bt ne)
          ];
        };
        answer = refl;
      }

  clear-page : (x : State) (g : ℕ) → v < length x.slots → page_at s (cleared x v) v g ≡ None
  clear-page x g within = ap (λ (y : Slot). page_under s (cleared x v).frames g (map.get y.mapped g)) (get_or-set_same x.slots v (empty_slot x.config.version) no_slot within) ∙ ap (page_under s (cleared x v).frames g) (map.get-empty nat_cmp g)

  pub own-clear : IsAlike s v (Clear v) (effect m (Clear v)) (effect n (Clear v))
  own-clear = record {
    state = record {
      slots = same.slots;
      leaves = same.leaves;
      approved = same.approved;
      slot = ap own_slot (get_or-set_same m.slots v (empty_slot m.config.version) no_slot lt) ∙ ap (λ (version : Version). own_slot (empty_slot version)) (same-version m.config n.config same.slots) ∙ sym (ap own_slot (get_or-set_same n.slots v (empty_slot n.config.version) no_slot in_n));
      pages = λ g. clear-page m g lt ∙ sym (clear-page n g in_n);
    };
    answer = refl;
  }

  -- measuring
  image-mapped : IsLawful m → v < slot_count m.config → (slot_at m v).phase ≡ Booting → list_any is_short (slot_at m v).images ≡ false → (i : ℕ) (d : Image) → i < length (slot_at m v).images
      → (g : ℕ) → (get_or (slot_at m v).images i d).base ≤ g → g < (get_or (slot_at m v).images i d).base + pages_of (get_or (slot_at m v).images i d).len → mapped_at m v g ≡ Some (backing (mapped_at m v g))
  image-mapped is within booting full i d low g from to =
      let image = get_or (slot_at m v).images i d in
      let holds_it = held image g (none-at is_short (slot_at m v).images i d low full) from to in
      backing-of _ ((is.each_slot v within).booting booting g ∙ list_any_at (holds g) (slot_at m v).images i d low holds_it)

  image-same : ((g : ℕ) → s g ≡ true) → (image : Image) → ((g : ℕ) → image.base ≤ g → g < image.base + pages_of image.len → mapped_at m v g ≡ Some (backing (mapped_at m v g))) → image_bytes m v image ≡ image_bytes n v image
  image-same all image mapped = ap (take image.len) (pages-same (bytes_at m v) (bytes_at n v) image.base (pages_of image.len) (λ g low high.
      page-bytes s g (frame_at m (backing (mapped_at m v g))) (frame_at n (backing (mapped_at n v g))) (all g) (under-page s m.frames n.frames g (mapped_at m v g) (mapped_at n v g) (same.pages g) (ap is_none (mapped g low high)))))

  images-same : (slot_at m v).images ≡ (slot_at n v).images
  images-same = ap (λ (x : SlotOf (Unit {0})). x.images) same.slot

  verified-same : IsLawful m → refusal m (Verify v) ≡ None → (first : Option ℕ) → IsAlike s v (Verify v) (verified m v first) (verified n v first)
  verified-same is served None =
      let seen = verify-served m v served in
      let images = (slot_at m v).images in
      let trimmed_too : HasTheSame s v (all_trimmed m v images) (all_trimmed n v (slot_at n v).images) = subst (λ l. HasTheSame s v (all_trimmed m v images) (all_trimmed n v l)) images-same (trims s v m n images same here there lt in_n (each_last_page m v is seen.0 seen.1 seen.2)) in
      let first : v < length (all_trimmed m v images).slots = subst (λ (slots : List Slot). v < length slots) (sym (slots-trimmed m v images)) lt in
      let second : v < length (all_trimmed n v (slot_at n v).images).slots = subst (λ (slots : List Slot). v < length slots) (sym (slots-trimmed n v (slot_at n v).images)) in_n in
      record { state = slots-same s v _ _ _ _ trimmed_too first second (ap (λ (x : SlotOf (Unit {0})). in_phase x Active) trimmed_too.slot) refl refl; answer = refl }
  verified-same is served (Some i) = record { state = slots-same s v m n _ _ same lt in_n (ap (λ (x : SlotOf (Unit {0})). in_phase x Dead) same.slot) refl refl; answer = refl }

  pub own-verify : ((g : ℕ) → s g ≡ true) → IsLawful m → refusal m (Verify v) ≡ None → IsAlike s v (Verify v) (effect m (Verify v)) (effect n (Verify v))
  own-verify all is served =
      let seen = verify-served m v served in
      let agreed = unapproved-same m n v (record {
        version = same-version m.config n.config same.slots;
        approved = same.approved;
        images = images-same;
        bytes = λ i d low. image-same all (get_or (slot_at m v).images i d) (image-mapped is seen.0 seen.1 seen.2 i d low);
      }) in
      subst (λ f. IsAlike s v (Verify v) (verified m v (unapproved m v)) (verified n v f)) agreed (verified-same is served (unapproved m v))
