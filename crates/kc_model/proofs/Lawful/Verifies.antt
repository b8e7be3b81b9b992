-- A slot whose images are verified.
use Rattle.std.proofs.Common.{ℕ, zero, suc, ◌≡◌, ◌<◌, ◌+◌, ◌-◌, ◌%◌, true, false, Option, None, Some, is_some, List, [], ◌∷◌, ◌++◌, length, take, replicate, get_or, nat_eq, refl, sym, subst, ◌∙◌, arith, All}
use Rattle.std.specs.List.{list_any}
use Rattle.std.proofs.lemmas.Bool.{or_parts}
use Rattle.std.proofs.lemmas.Grind.{common_steps}
use Rattle.std.proofs.lemmas.List.Folds.{list_any_at}
use Rattle.kc_types.specs.declared.call.Call.TheVariants.{Verify}
use Rattle.kc_types.specs.declared.slot.Phase.TheVariants.{Booting, Active, Dead}
use Rattle.kc_model.specs.State.{State, Slot, Image, frame_at, slot_at, mapped_at}
use Rattle.kc_model.specs.Refusals.{refusal, backing, pages_of, is_short, conditions}
use Rattle.kc_model.specs.Effects.{effect, trimmed, all_trimmed, verified, unapproved}
use Rattle.kc_model.specs.Lawful.{IsLawful, IsLawfulFrame, holds}
use Rattle.kc_model.proofs.Refusals.Served.{when-none, none-of}
use Rattle.kc_model.proofs.Refusals.Answered.{vm-in, was-booting}
use Rattle.kc_model.proofs.States.Pages.{page-trimmed}
use Rattle.kc_model.proofs.States.Slots.{lawful-with_phase, none-at}
use Rattle.kc_model.proofs.States.Changes.{lawful-with_slot}
use Rattle.kc_model.proofs.Lawful.HostCalls.{lawful-with_bytes}
use Rattle.kc_model.proofs.Lawful.GuestCalls.{owner-mapped, exists-mapped}
use Rattle.kc_types.specs.Configuration.{slot_count}

-- the guest frame of an image's last page
abbrev pub last_gfn : Image → ℕ
last_gfn image = image.base + pages_of image.len - 1

-- the last page of an image is mapped
abbrev pub HasLastPage : State → ℕ → Image → Type 0
HasLastPage m v image = mapped_at m v (last_gfn image) ≡ Some (backing (mapped_at m v (last_gfn image)))

pub slots-trimmed : (m : State) (v : ℕ) (images : List Image) → (all_trimmed m v images).slots ≡ m.slots
slots-trimmed m v [] = refl
slots-trimmed m v (image ∷ images) = slots-trimmed (trimmed m v image) v images

config-trimmed : (m : State) (v : ℕ) (images : List Image) → (all_trimmed m v images).config ≡ m.config
config-trimmed m v [] = refl
config-trimmed m v (image ∷ images) = config-trimmed (trimmed m v image) v images

-- a slot exists in the trimmed state if it did before
pub exists-trimmed : (m : State) (v w : ℕ) (images : List Image) → w < slot_count m.config → w < slot_count (all_trimmed m v images).config
exists-trimmed m v w images lt = subst (λ config. w < slot_count config) (sym (config-trimmed m v images)) lt

pub lawful-trimmed : (m : State) (v : ℕ) (image : Image) → IsLawful m → v < slot_count m.config → HasLastPage m v image → IsLawful (trimmed m v image)
lawful-trimmed m v image is v_in mapped =
    let f = backing (mapped_at m v (last_gfn image)) in
    let owner = owner-mapped m v (last_gfn image) f is v_in mapped in
    let lt = exists-mapped m v (last_gfn image) f is v_in mapped in
    let kept = (image.len - 1) % 4096 + 1 in
    lawful-with_bytes m f (take kept (frame_at m f).bytes ++ replicate (4096 - kept) 0) is lt (λ free. cc) (λ (frame : IsLawfulFrame m.config f (frame_at m f)). record {
      core = frame.core;
      mapped = frame.mapped;
      shared = frame.shared;
      sharer = frame.sharer;
      reached = frame.reached;
      zeroed = λ free. absurd cc;
      page = page-trimmed (frame_at m f).bytes kept frame.page (omega arith);
      slot = frame.slot;
      gfn = frame.gfn;
    })

pub lawful-all_trimmed : (m : State) (v : ℕ) (images : List Image) → IsLawful m → v < slot_count m.config → All (HasLastPage m v) images → IsLawful (all_trimmed m v images)
lawful-all_trimmed m v [] is v_in mapped = is
lawful-all_trimmed m v (image ∷ images) is v_in mapped = lawful-all_trimmed (trimmed m v image) v images (lawful-trimmed m v image is v_in (mapped zero image (omega arith))) v_in (λ k d lt. mapped (suc k) d (omega arith))

pub backing-of : (at : Option ℕ) → is_some at ≡ true → at ≡ Some (backing at)
backing-of (Some f) h = refl
backing-of None h = cc

holds-last : (image : Image) → 0 < image.len → is_short image ≡ false → holds (last_gfn image) image ≡ true
holds-last image some full = let pages : 0 < pages_of image.len = omega arith in grind (arith, common_steps, full, pages)

-- each image of a slot that boots with all its pages
pub each_last_page : (m : State) (v : ℕ) → IsLawful m → v < slot_count m.config → (slot_at m v).phase ≡ Booting → list_any is_short (slot_at m v).images ≡ false → All (HasLastPage m v) (slot_at m v).images
each_last_page m v is v_in booting full i d lt =
    let there = is.each_slot v v_in in
    let image = get_or (slot_at m v).images i d in
    let image_is = there.each_image i d lt in
    let held = holds-last image image_is.some (none-at is_short (slot_at m v).images i d lt full) in
    backing-of _ (there.booting booting (last_gfn image) ∙ list_any_at (holds (last_gfn image)) (slot_at m v).images i d lt held)

lawful-verified : (m : State) (v : ℕ) (first : Option ℕ) → IsLawful m → v < slot_count m.config → (slot_at m v).phase ≡ Booting → list_any is_short (slot_at m v).images ≡ false → IsLawful (verified m v first).1
lawful-verified m v None is v_in booting full =
    let images = (slot_at m v).images in
    let is_trimmed = lawful-all_trimmed m v images is v_in (each_last_page m v is v_in booting full) in
    let still : (slot_at (all_trimmed m v images) v).phase ≡ Booting = subst (λ (slots : List Slot). (slot_at (record m { slots = slots }) v).phase ≡ Booting) (sym (slots-trimmed m v images)) booting in
    let there = exists-trimmed m v v images v_in in
    lawful-with_slot (all_trimmed m v images) v (record (slot_at (all_trimmed m v images) v) { phase = Active }) is_trimmed there refl refl
    (lawful-with_phase (all_trimmed m v images).config (slot_at (all_trimmed m v images) v) Active (is_trimmed.each_slot v there) still (λ h. cc) (λ h. cc)) (λ h. refl)
lawful-verified m v (Some i) is v_in booting full =
    lawful-with_slot m v (record (slot_at m v) { phase = Dead }) is v_in refl refl (lawful-with_phase m.config (slot_at m v) Dead (is.each_slot v v_in) booting (λ h. cc) (λ h. cc)) (λ h. absurd cc)

-- a served `verify`
pub verify-served : (m : State) (v : ℕ) → refusal m (Verify v) ≡ None → (v < slot_count m.config) × ((slot_at m v).phase ≡ Booting) × (list_any is_short (slot_at m v).images ≡ false)
verify-served m v served =
    let none = none-of (conditions m (Verify v)) served in
    (vm-in m v (none 0), was-booting m v (none 2), (or_parts (nat_eq (length (slot_at m v).images) 0) (list_any is_short (slot_at m v).images) (when-none _ _ (none 3))).1)

pub lawful-verify : (m : State) (v : ℕ) → IsLawful m → refusal m (Verify v) ≡ None → IsLawful (effect m (Verify v)).1
lawful-verify m v is served =
    let seen = verify-served m v served in
    lawful-verified m v (unapproved m v) is seen.0 seen.1 seen.2
