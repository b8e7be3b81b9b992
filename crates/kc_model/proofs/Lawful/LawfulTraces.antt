-- A lawful state has all that a call needs, and each state of a trace from a lawful one is lawful.
use Rattle.std.proofs.Common.{ℕ, zero, suc, ◌≡◌, ◌<◌, ◌≤◌, ◌+◌, true, cond, is_some, nat_le, nat_lt, List, [], ◌∷◌, length, All, ap, ◌∙◌, arith}
use Rattle.std.specs.List.{list_any}
use Rattle.std.specs.Ordering.{nat_cmp}
use Rattle.std.specs.FinMap as map
use Rattle.std.proofs.lemmas.Grind.{common_steps}
use Rattle.std.proofs.lemmas.Bool.{or_right, or_left, and_from}
use Rattle.kc_types.specs.declared.call.Call.{Call}
use Rattle.kc_types.specs.declared.owner.Owner.TheVariants.{Free, Vm}
use Rattle.kc_types.specs.declared.version.Version.{Version}
use Rattle.kc_model.specs.State.{State, Image, frame_at, slot_at}
use Rattle.kc_model.specs.Refusals.{pages_of}
use Rattle.kc_model.specs.Lawful.{IsLawful, IsLawfulImage, holds, same_owner, times_in}
use Rattle.kc_model.specs.Local.{IsOrderly, HasMappedPages}
use Rattle.kc_model.specs.Footprints.{state_at}
use Rattle.kc_model.specs.Next.{next, state_after}
use Rattle.kc_model.specs.Volumes.{IsCoreState}
use Rattle.kc_model.proofs.States.Members.{held-times_in, same_number}
use Rattle.kc_model.proofs.Local.Orderly.{orderly-lawful}
use Rattle.kc_model.proofs.Local.LinksKept.{ListsAll}
use Rattle.kc_model.proofs.Lawful.Keeps.{lawful-next}
use Rattle.kc_model.proofs.States.Places.{good-at}
use Rattle.kc_model.proofs.States.Sizes.{config-after}

some-page : (len : ℕ) → 0 < len → 0 < pages_of len
some-page len some = omega (arith, some)

held-between : (g : ℕ) (image : Image) → image.base ≤ g → g < image.base + image.pages → holds g image ≡ true
held-between g image from below = and_from (nat_le image.base g) (nat_lt g (image.base + image.pages)) (grind (arith, common_steps)) (grind (arith, common_steps))

mapped-pages : (version : Version) (mapped : map.FinMap nat_cmp ℕ) (images : List Image) → All (IsLawfulImage version) images → ((g : ℕ) → list_any (holds g) images ≡ true → is_some (map.get mapped g) ≡ true) → HasMappedPages mapped images
mapped-pages version mapped [] each held i d low = absurd (omega (arith, low))
mapped-pages version mapped (image ∷ images) each held zero d low = record {
  some = some-page image.len (each 0 image (omega arith)).some;
  each_page = λ g from below. held g (or_left (holds g image) (list_any (holds g) images) (held-between g image from below));
}
mapped-pages version mapped (image ∷ images) each held (suc i) d low =
    mapped-pages version mapped images (λ k d lt. each (suc k) d (omega (arith, lt))) (λ g h. held g (or_right (holds g image) (list_any (holds g) images) h)) i d (omega (arith, low))

-- a lawful state is orderly
pub orderly-is : (m : State) → IsLawful m → IsOrderly m
orderly-is m is = orderly-lawful m is (λ v low booting. let slot = is.each_slot v low in mapped-pages m.config.version (slot_at m v).mapped (slot_at m v).images slot.each_image (λ g h. slot.booting booting g ∙ h))

-- each list holds the frames of its owner
pub lists-all : (m : State) → IsLawful m → ListsAll m
lists-all m is = record {
  free = λ f e.
      let mine : same_owner (frame_at m f).owner Free ≡ true = ap (λ o. same_owner o Free) e in
      let once : times_in m.free f ≡ 1 = is.free f ∙ ap (λ b. cond b 1 0) mine in
      held-times_in m.free f (omega (arith, once));
  slots = λ v f low e.
      let mine : same_owner (frame_at m f).owner (Vm v) ≡ true = ap (λ o. same_owner o (Vm v)) e ∙ same_number v in
      let once : times_in (slot_at m v).frames f ≡ 1 = is.listed v low f ∙ ap (λ b. cond b 1 0) mine in
      held-times_in (slot_at m v).frames f (omega (arith, once));
}

pub lawful-at : (m : State) (calls : List Call) → IsLawful m → (k : ℕ) → k ≤ length calls → IsLawful (state_at m calls k)
lawful-at m calls is k le = good-at IsLawful lawful-next m calls is k le

-- calls leave a lawful state lawful
pub lawful-after : (m : State) (calls : List Call) → IsLawful m → IsLawful (state_after m calls)
lawful-after m [] is = is
lawful-after m (call ∷ calls) is = lawful-after (next m call).1 calls (lawful-next m call is)

-- calls from a core's state lead to a core's state
pub core_state-after : (m : State) (calls : List Call) → IsCoreState m → IsCoreState (state_after m calls)
core_state-after m calls is = record { lawful = lawful-after m calls is.lawful; digests = rw (config-after m calls) is.digests }

pub orderly-at : (m : State) (calls : List Call) → IsLawful m → (k : ℕ) → k < length calls → IsOrderly (state_at m calls k)
orderly-at m calls is k lt = orderly-is (state_at m calls k) (lawful-at m calls is k (omega (arith, lt)))
