-- The images of a slot that is here, as the state has them.
use Rattle.std.proofs.Common.{ℕ, zero, suc, ◌≡◌, ◌<◌, ◌+◌, ◌-◌, ◌%◌, Bool, true, false, is_some, All, List, [], ◌∷◌, length, get_or, take, Option, Some, None, refl, sym, ap, subst, ◌∙◌, arith}
use Rattle.std.specs.Ordering.{nat_cmp}
use Rattle.std.specs.FinMap as map
use Rattle.sha2.specs.Sha256.{sha256}
use Rattle.kc_types.specs.declared.custody.MeasuredImage.{MeasuredImage}
use Rattle.kc_model.proofs.Local.VerifyLocal.{pages-same}
use Rattle.kc_types.specs.Configuration.{Configuration, slot_count, measures_launch}
use Rattle.kc_types.specs.declared.call.Call.TheVariants.{Verify}
use Rattle.kc_types.specs.declared.resource.Resource.TheVariants as resource
use Rattle.kc_model.specs.State.{State, Image, Slot, slot_at, mapped_at, frame_at, with_frame}
use Rattle.kc_model.specs.Refusals.{refusal, backing, pages_of, is_short}
use Rattle.kc_model.specs.Effects.{bytes_at, image_bytes, trimmed, all_trimmed, first_failing, is_approved, unapproved}
use Rattle.kc_model.specs.Custody.{measured_image, measured_images, launch_of}
use Rattle.kc_model.proofs.Lawful.Verifies.{verify-served, backing-of}
use Rattle.kc_model.proofs.States.Slots.{none-at}
use Rattle.kc_model.proofs.Local.Needs.{not_short}
use Rattle.kc_page.specs.declared.page.Page.{Page}
use Rattle.kc_page.specs.PageBytes.{zeroed_from}
use Rattle.kc_page.specs.Page.{frame_of}
use Rattle.kc_vms.specs.Stage2.{Table}
use Rattle.kc_vms.specs.Vm.{VmSlot, slot_table}
use Rattle.kc_parts.specs.Parts.{Held, HeldSlots, page_at, held_slot, vm_at, links_of, with_page, link_of}
use Rattle.kc_parts.specs.States.{slot_in, state_of, IsLinked}
use Rattle.kc_parts.proofs.Seen.{frame-seen, slot-seen}
use Rattle.kc_links.specs.Chain.{Links}
use Rattle.kc_core.specs.Applying.{KeepsPlaces, IsAble}
use Rattle.kc_core.specs.Verifying.{mapped_in, page_under, bytes_under, bytes_of_image, is_approved_digest, rejected_for, IsImageHere}
use Rattle.kc_core.proofs.Frames.{changed}
use Rattle.kc_core.proofs.FirstFailing.{fails-map}
use Rattle.kc_parts.proofs.Looked.{slot-is}
use Rattle.kc_core.proofs.Needed.{slot-needed, mapped-needed}

-- the frame to which a guest frame leads, in a slot that is here
pub mapped-seen : (config : Configuration) (h : Held) (v : ℕ) (vm : VmSlot) (g : ℕ) → v < slot_count config → vm_at h v ≡ Some vm → mapped_at (state_of config h) v g ≡ map.get vm.slot.mapped g
mapped-seen config h v vm g low at = ap (λ (there : Slot). map.get there.mapped g) (slot-is config h v vm low at)

bytes-seen : (config : Configuration) (h : Held) (v : ℕ) (vm : VmSlot) (g : ℕ) → v < slot_count config → IsLinked config h → vm_at h v ≡ Some vm → is_some (page_under h (map.get vm.slot.mapped) g) ≡ true
    → bytes_under h (map.get vm.slot.mapped) g ≡ bytes_at (state_of config h) v g
bytes-seen config h v vm g low linked at here =
    sym (ap (λ f. (frame_at (state_of config h) (backing f)).bytes) (mapped-seen config h v vm g low at)
    ∙ ap (λ frame. frame.bytes) (frame-seen config h (backing (map.get vm.slot.mapped g)) (linked.frames (backing (map.get vm.slot.mapped g)) here)))

-- the bytes of an image
pub image-seen : (config : Configuration) (h : Held) (v : ℕ) (vm : VmSlot) (image : Image) → v < slot_count config → IsLinked config h → vm_at h v ≡ Some vm → IsImageHere h (map.get vm.slot.mapped) image
    → bytes_of_image h (map.get vm.slot.mapped) image ≡ image_bytes (state_of config h) v image
image-seen config h v vm image low linked at here =
    ap (take image.len) (pages-same (bytes_under h (map.get vm.slot.mapped)) (bytes_at (state_of config h) v) image.base (pages_of image.len) (λ g from below. bytes-seen config h v vm g low linked at (here.pages g from below)))

-- the first image that is not approved, by the digests that were measured
unapproved-seen : (config : Configuration) (h : Held) (v : ℕ) → first_failing (λ (image : MeasuredImage). is_approved_digest config image.digest) (measured_images (state_of config h) v) ≡ first_failing (is_approved (state_of config h) v) (slot_at (state_of config h) v).images
unapproved-seen config h v =
    fails-map (is_approved (state_of config h) v) (λ (image : MeasuredImage). is_approved_digest config image.digest) (measured_image (state_of config h) v) (slot_at (state_of config h) v).images (λ i d low. refl)

-- a boot is rejected by what was measured of it
pub rejected-is : (config : Configuration) (h : Held) (v : ℕ) → rejected_for config (measured_images (state_of config h) v) (launch_of (state_of config h) v) ≡ unapproved (state_of config h) v
rejected-is config h v = by_rule (measures_launch config.version) refl
  where
    by_rule : (whole : Bool) → measures_launch config.version ≡ whole → rejected_for config (measured_images (state_of config h) v) (launch_of (state_of config h) v) ≡ unapproved (state_of config h) v
    by_rule false each = rw each (unapproved-seen config h v)
    by_rule true whole = rw whole refl

-- the images of a slot that is here, through its table
pub image-through : (h : Held) (v : ℕ) (vm : VmSlot) (table : Table) (image : Image) → vm_at h v ≡ Some vm → table ≡ slot_table vm → IsImageHere h (mapped_in (vm_at h v)) image → IsImageHere h (map.get table.mapped) image
image-through h v vm table image at through here = subst (λ (t : Table). IsImageHere h (map.get t.mapped) image) (sym through) (subst (λ there. IsImageHere h (mapped_in there) image) at here)

-- an image of such a slot, with the digest of its bytes
pub measured-seen : (config : Configuration) (h : Held) (v : ℕ) (vm : VmSlot) (table : Table) (image : Image) (digest : List ℕ) → v < slot_count config → IsLinked config h → vm_at h v ≡ Some vm → table ≡ slot_table vm
    → IsImageHere h (mapped_in (vm_at h v)) image → digest ≡ sha256 (bytes_of_image h (map.get table.mapped) image) → record { base = image.base; len = image.len; digest = digest } ≡ measured_image (state_of config h) v image
measured-seen config h v vm table image digest low linked at through here is =
    ap (λ bytes. record { base = image.base; len = image.len; digest = bytes })
    (is
    ∙ ap (λ (t : Table). sha256 (bytes_of_image h (map.get t.mapped) image)) through
    ∙ ap sha256 (image-seen config h v vm image low linked at (image-through h v vm (slot_table vm) image at refl here)))

-- the last page of an image that is trimmed
pub state-trimmed : (config : Configuration) (h : Held) (v : ℕ) (vm : VmSlot) (image : Image) (f : ℕ) (page new : Page) → v < slot_count config → IsLinked config h → vm_at h v ≡ Some vm → 0 < image.len
    → f ≡ backing (map.get vm.slot.mapped (image.base + (pages_of image.len - 1))) → page_at h f ≡ Some page → link_of new ≡ link_of page
    → frame_of new ≡ record (frame_of page) { bytes = zeroed_from page.bytes.bytes ((image.len - 1) % 4096 + 1) }
    → state_of config (with_page h f new) ≡ trimmed (state_of config h) v image
state-trimmed config h v vm image f page new low linked at some is here same to =
    let m : State = state_of config h in
    let kept : ℕ = (image.len - 1) % 4096 + 1 in
    let pages : 0 < pages_of image.len = omega arith in
    let last : image.base + (pages_of image.len - 1) ≡ image.base + pages_of image.len - 1 = omega (arith, pages) in
    let there : f ≡ backing (mapped_at m v (image.base + pages_of image.len - 1)) = is ∙ ap (λ g. backing (map.get vm.slot.mapped g)) last ∙ sym (ap backing (mapped-seen config h v vm (image.base + pages_of image.len - 1) low at)) in
    changed config h f page new (λ frame. record frame { bytes = zeroed_from frame.bytes kept }) (linked.frames f (ap is_some here)) here same to
    ∙ ap (λ g. with_frame m g (record (frame_at m g) { bytes = zeroed_from (frame_at m g).bytes kept })) there

-- the images of a slot that is here are those of the state
pub images-seen : (config : Configuration) (h : Held) (v : ℕ) (vm : VmSlot) (images : List Image) → v < slot_count config → vm_at h v ≡ Some vm → images ≡ vm.slot.images → (slot_at (state_of config h) v).images ≡ images
images-seen config h v vm images low at is = ap (λ (there : Slot). there.images) (slot-is config h v vm low at) ∙ sym is

-- the images of a slot are the same in parts with the same slots
pub images-kept : (config : Configuration) (old new : Held) (v : ℕ) (vm : VmSlot) (images : List Image) → v < slot_count config → new.vms ≡ old.vms → vm_at new v ≡ Some vm → images ≡ vm.slot.images → (slot_at (state_of config old) v).images ≡ images
images-kept config old new v vm images low slots at is = images-seen config old v vm images low (ap (λ (vms : HeldSlots). held_slot vms v) (sym slots) ∙ at) is

-- an image stays here as long as the places and the slots stay
pub image-still : (old new : Held) (v : ℕ) (image : Image) → KeepsPlaces old new → new.vms ≡ old.vms → IsImageHere old (mapped_in (vm_at old v)) image → IsImageHere new (mapped_in (vm_at new v)) image
image-still old new v image places slots here = subst (λ (vms : HeldSlots). IsImageHere new (mapped_in (held_slot vms v)) image) (sym slots) (record {
  mapped_pages = here.mapped_pages;
  pages = λ g from below. places.here (resource.Frame (backing (mapped_in (vm_at old v) g))) ∙ here.pages g from below;
})

-- one more image is trimmed
pub all_trimmed-more : (m : State) (v : ℕ) (images : List Image) (i : ℕ) (d : Image) → i < length images → all_trimmed m v (take (i + 1) images) ≡ trimmed (all_trimmed m v (take i images)) v (get_or images i d)
all_trimmed-more m v [] i d low = absurd (omega (arith, low))
all_trimmed-more m v (image ∷ images) zero d low = refl
all_trimmed-more m v (image ∷ images) (suc i) d low =
    let next : suc i + 1 ≡ suc (i + 1) = omega arith in
    ap (λ n. all_trimmed m v (take n (image ∷ images))) next ∙ all_trimmed-more (trimmed m v image) v images i d (omega (arith, low))

-- the slot of a `verify` that is served is here
pub slot-verified : (config : Configuration) (h : Held) (v : ℕ) → IsAble config h (Verify v) → refusal (state_of config h) (Verify v) ≡ None → is_some (vm_at h v) ≡ true
slot-verified config h v able served = slot-needed config h (Verify v) able v refl (verify-served (state_of config h) v served).0

-- and so are its images
pub images-needed : (config : Configuration) (h : Held) (v : ℕ) → IsAble config h (Verify v) → refusal (state_of config h) (Verify v) ≡ None → All (IsImageHere h (mapped_in (vm_at h v))) (slot_at (state_of config h) v).images
images-needed config h v able served i d low =
    let m : State = state_of config h in
    let seen = verify-served m v served in
    let image : Image = get_or (slot_at m v).images i d in
    let whole : is_short image ≡ false = none-at is_short (slot_at m v).images i d low seen.2 in
    let pages = (able.orderly.each_slot v seen.0).images seen.1 i d low in
    let same : (g : ℕ) → mapped_at m v g ≡ mapped_in (vm_at h v) g = mapped-as config h v seen.0 in
    record {
      mapped_pages = λ g from below. sym (ap is_some (same g)) ∙ pages.each_page g from (not_short image g whole below);
      pages = λ g from below. ap (λ f. is_some (page_at h (backing f))) (sym (same g)) ∙ mapped-needed config h (Verify v) able v g (backing (mapped_at m v g)) refl seen.0 (backing-of (mapped_at m v g) (pages.each_page g from (not_short image g whole below)));
    }
  where
    mapped-as : (config : Configuration) (h : Held) (v : ℕ) → v < slot_count config → (g : ℕ) → mapped_at (state_of config h) v g ≡ mapped_in (vm_at h v) g
    mapped-as config h v low g = ap (λ (there : Slot). map.get there.mapped g) (slot-seen config h v low) ∙ by_slot (links_of h) (vm_at h v)
      where
        by_slot : (links : Links) (at : Option VmSlot) → map.get (slot_in links at).mapped g ≡ mapped_in at g
        by_slot links (Some vm) = refl
        by_slot links None = map.get-empty nat_cmp g
