-- Verifying a slot depends only on its images' pages.
use Rattle.std.proofs.Common.{ℕ, zero, suc, ◌≡◌, ◌<◌, ◌≤◌, ◌+◌, ◌-◌, Option, Some, None, List, [], ◌∷◌, length, take, get_or, refl, sym, ap, subst, ◌∙◌, arith, length-set}
use Rattle.std.specs.List.{flat_map, range_with_len}
use Rattle.std.specs.FinMap as map
use Rattle.kc_types.specs.declared.call.Call.TheVariants.{Verify}
use Rattle.kc_types.specs.declared.reply.Reply.TheVariants as reply
use Rattle.kc_types.specs.declared.slot.Phase.TheVariants.{Active}
use Rattle.kc_model.specs.State.{State, Frame, Slot, Image, frame_at, slot_at, mapped_at}
use Rattle.kc_model.specs.Refusals.{refusal, backing, pages_of}
use Rattle.kc_model.specs.Effects.{bytes_at, image_bytes, unapproved, trimmed, all_trimmed, with_phase, verified}
use Rattle.kc_model.specs.Resources.{Resources, merged}
use Rattle.kc_model.specs.Local.{outcome_merged, IsLocal}
use Rattle.kc_model.proofs.Local.Merges.{HasFrame, HasSlot, frame-merged, slot-merged, frames-set, slots-set}
use Rattle.kc_model.proofs.Local.Locals.{local-next}
use Rattle.kc_model.proofs.Lawful.Verifies.{slots-trimmed}
use Rattle.kc_model.proofs.States.Approvals.{BootsAlike, unapproved-same}

-- the frames of an image's pages are among the resources
pub record HasImage (here : Resources) (m : State) (v : ℕ) (image : Image) : Type 0 where
  pub some : 0 < pages_of image.len
  pub pages : (g : ℕ) → image.base ≤ g → g < image.base + pages_of image.len → HasFrame here m (backing (mapped_at m v g))

abbrev pub HasImages : Resources → State → ℕ → List Image → Type 0
HasImages here m v [] = Unit {0}
HasImages here m v (image ∷ images) = HasImage here m v image × HasImages here m v images

-- the bytes of pages that are the same, joined
pub pages-same : (f g : ℕ → List ℕ) (base n : ℕ) → ((k : ℕ) → base ≤ k → k < base + n → f k ≡ g k) → flat_map f (range_with_len base n) ≡ flat_map g (range_with_len base n)
pages-same f g base zero same = refl
pages-same f g base (suc n) same = rw (same base (omega arith) (omega arith), pages-same f g (base + 1) n (λ k from below. same k (omega arith) (omega arith))) refl

bytes-merged : (here : Resources) (m rest : State) (v g : ℕ) → HasSlot here m v → HasFrame here m (backing (mapped_at m v g)) → bytes_at (merged here m rest) v g ≡ bytes_at m v g
bytes-merged here m rest v g has page =
    ap (λ (there : Slot). (frame_at (merged here m rest) (backing (map.get there.mapped g))).bytes) (slot-merged here m rest v has)
    ∙ ap (λ (there : Frame). there.bytes) (frame-merged here m rest (backing (mapped_at m v g)) page)

has-at : (here : Resources) (m : State) (v : ℕ) (images : List Image) → HasImages here m v images → (i : ℕ) (d : Image) → i < length images → HasImage here m v (get_or images i d)
has-at here m v [] each i d lt = absurd (omega (arith, lt))
has-at here m v (image ∷ images) each zero d lt = each.0
has-at here m v (image ∷ images) each (suc i) d lt = has-at here m v images each.1 i d (omega (arith, lt))

boots-alike : (here : Resources) (m rest : State) (v : ℕ) → HasSlot here m v → HasImages here m v (slot_at m v).images → BootsAlike (merged here m rest) m v
boots-alike here m rest v has each = record {
  version = refl;
  approved = refl;
  images = ap (λ (there : Slot). there.images) same;
  bytes = subst (λ (there : Slot). (i : ℕ) (d : Image) → i < length there.images → image_bytes (merged here m rest) v (get_or there.images i d) ≡ image_bytes m v (get_or there.images i d)) (sym same) (λ i d lt.
      let image = get_or (slot_at m v).images i d in
      let pages = has-at here m v (slot_at m v).images each i d lt in
      ap (take image.len) (pages-same (bytes_at (merged here m rest) v) (bytes_at m v) image.base (pages_of image.len) (λ g from below. bytes-merged here m rest v g has (pages.pages g from below))));
}
  where
    same : slot_at (merged here m rest) v ≡ slot_at m v
    same = slot-merged here m rest v has

trimmed-merged : (here : Resources) (m rest : State) (v : ℕ) (image : Image) → HasSlot here m v → HasImage here m v image → trimmed (merged here m rest) v image ≡ merged here (trimmed m v image) rest
trimmed-merged here m rest v image has pages =
    let some = pages.some in
    let g = image.base + pages_of image.len - 1 in
    let last : HasFrame here m (backing (mapped_at m v g)) = pages.pages g (omega arith) (omega arith) in
    rw (slot-merged here m rest v has, frame-merged here m rest (backing (mapped_at m v g)) last, frames-set here m rest (backing (mapped_at m v g)) last) refl

still : (here : Resources) (m : State) (v w : ℕ) (image : Image) (images : List Image) → HasImages here m w images → HasImages here (trimmed m v image) w images
still here m v w image [] each = tt
still here m v w image (next ∷ images) each = (record { some = each.0.some; pages = λ g from below lt. each.0.pages g from below (rw length-set at lt) }, still here m v w image images each.1)

all_trimmed-merged : (here : Resources) (m rest : State) (v : ℕ) (images : List Image) → HasSlot here m v → HasImages here m v images → all_trimmed (merged here m rest) v images ≡ merged here (all_trimmed m v images) rest
all_trimmed-merged here m rest v [] has each = refl
all_trimmed-merged here m rest v (image ∷ images) has each =
    ap (λ s. all_trimmed s v images) (trimmed-merged here m rest v image has each.0)
    ∙ all_trimmed-merged here (trimmed m v image) rest v images has (still here m v v image images each.1)

with_phase-merged : (here : Resources) (m rest : State) (v : ℕ) → HasSlot here m v → with_phase (merged here m rest) v Active ≡ merged here (with_phase m v Active) rest
with_phase-merged here m rest v has = rw (slot-merged here m rest v has, slots-set here m rest v has) refl

verified-merged : (here : Resources) (m rest : State) (v : ℕ) (failing : Option ℕ) → HasSlot here m v → HasImages here m v (slot_at m v).images → verified (merged here m rest) v failing ≡ outcome_merged here (verified m v failing) rest
verified-merged here m rest v None has each = ap (λ s. (reply.Done, s)) (
    ap (λ (there : Slot). with_phase (all_trimmed (merged here m rest) v there.images) v Active) (slot-merged here m rest v has)
    ∙ ap (λ s. with_phase s v Active) (all_trimmed-merged here m rest v (slot_at m v).images has each)
    ∙ with_phase-merged here (all_trimmed m v (slot_at m v).images) rest v (λ lt. has (rw slots-trimmed at lt))
    )
verified-merged here m rest v (Some i) has each = rw (slot-merged here m rest v has, slots-set here m rest v has) refl

pub local-verify : (here : Resources) (m rest : State) (v : ℕ) → HasSlot here m v → (refusal m (Verify v) ≡ None → HasImages here m v (slot_at m v).images) → IsLocal here m rest (Verify v)
local-verify here m rest v has each = local-next here m rest (Verify v)
    (rw (slot-merged here m rest v has) refl)
    (λ served.
    ap (verified (merged here m rest) v) (unapproved-same (merged here m rest) m v (boots-alike here m rest v has (each served)))
    ∙ verified-merged here m rest v (unapproved m v) has (each served))
