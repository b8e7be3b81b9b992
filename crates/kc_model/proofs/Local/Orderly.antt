-- A lawful state has what a call needs.
use Rattle.std.proofs.Common.{ℕ, ◌≡◌, ◌<◌, ◌+◌, inl, inr, Bool, true, false, cond, None, Some, length, get_or, refl, ap, ◌∙◌, arith}
use Rattle.std.proofs.lemmas.Bool.{cases_lt}
use Rattle.std.proofs.lemmas.List.{get_or_past}
use Rattle.kc_types.specs.declared.owner.Owner.{Owner}
use Rattle.kc_types.specs.declared.owner.Owner.TheVariants.{Core, Host, Free, Vm}
use Rattle.kc_types.specs.declared.slot.Phase.TheVariants.{Booting}
use Rattle.kc_model.specs.State.{State, Slot, Image, frame_at, slot_at, mapped_at, no_slot}
use Rattle.kc_model.specs.Refusals.{pages_of}
use Rattle.kc_model.specs.Lawful.{IsLawful, same_owner, times_in}
use Rattle.kc_model.specs.Links.{list_of}
use Rattle.kc_model.specs.Resources.{is_in, listed_in}
use Rattle.kc_model.specs.Local.{IsOrderly, HasMappedPages}
use Rattle.kc_model.proofs.Refusals.Answered.{is_none-of}
use Rattle.kc_model.proofs.States.Owners.{same-is}
use Rattle.kc_model.proofs.States.Slots.{next-held}
use Rattle.kc_model.proofs.States.Members.{times_in-held, held-times_in, same_number}
use Rattle.kc_types.specs.Configuration.{slot_count}

of-times : (b : Bool) (n : ℕ) → 0 < n → n ≡ cond b 1 0 → b ≡ true
of-times true n some is = refl
of-times false n some is = absurd (omega (arith, some, is))

-- a listed frame belongs to the list's owner
pub listed-owned : (m : State) → IsLawful m → (owner : Owner) (f : ℕ) → listed_in m owner f ≡ true → same_owner (frame_at m f).owner owner ≡ true
listed-owned m is Core f h = cc
listed-owned m is Host f h = cc
listed-owned m is Free f h = of-times (same_owner (frame_at m f).owner Free) (times_in m.free f) (times_in-held m.free f h) (is.free f)
listed-owned m is (Vm v) f h = elim (cases_lt v (slot_count m.config)) [
  | inl low ↦ of-times (same_owner (frame_at m f).owner (Vm v)) (times_in (slot_at m v).frames f) (times_in-held (slot_at m v).frames f h) (is.listed v low f)
  | inr high ↦ let none : is_in (slot_at m v).frames f ≡ false = ap (λ (there : Slot). is_in there.frames f) (get_or_past m.slots v no_slot (rw is.slots high)) in cc
]

-- so it has that owner
pub owned-is : (m : State) → IsLawful m → (owner : Owner) (f : ℕ) → is_in (list_of m owner) f ≡ true → (frame_at m f).owner ≡ owner
owned-is m is Core f listed = cc
owned-is m is Host f listed = cc
owned-is m is Free f listed = same-is (frame_at m f).owner Free (listed-owned m is Free f listed)
owned-is m is (Vm v) f listed = same-is (frame_at m f).owner (Vm v) (listed-owned m is (Vm v) f listed)

-- a mapped frame is in the list of its slot
mapped-listed : (m : State) (v g f : ℕ) → IsLawful m → v < slot_count m.config → mapped_at m v g ≡ Some f → is_in (slot_at m v).frames f ≡ true
mapped-listed m v g f is low e =
    let owner : (frame_at m f).owner ≡ Vm v = ((is.mapped v g f low).0 e).0 in
    let mine : same_owner (frame_at m f).owner (Vm v) ≡ true = ap (λ o. same_owner o (Vm v)) owner ∙ same_number v in
    let once : times_in (slot_at m v).frames f ≡ 1 = is.listed v low f ∙ ap (λ b. cond b 1 0) mine in
    held-times_in (slot_at m v).frames f (omega (arith, once))

-- the next page of a booting slot's image is not mapped
next-unmapped : (m : State) (v : ℕ) → IsLawful m → v < slot_count m.config → (slot_at m v).phase ≡ Booting → (i : ℕ) (absent : Image) → i < length (slot_at m v).images
    → (get_or (slot_at m v).images i absent).pages < pages_of (get_or (slot_at m v).images i absent).len → mapped_at m v ((get_or (slot_at m v).images i absent).base + (get_or (slot_at m v).images i absent).pages) ≡ None
next-unmapped m v is low booting i absent within short =
    let slot = is.each_slot v low in
    let g = (get_or (slot_at m v).images i absent).base + (get_or (slot_at m v).images i absent).pages in
    is_none-of (mapped_at m v g) (slot.booting booting g ∙ next-held m.config.version (slot_at m v).images i absent g slot.apart slot.each_image within refl short)

-- a lawful state whose booting slots have their images' pages mapped is orderly
pub orderly-lawful : (m : State) → IsLawful m → ((v : ℕ) → v < slot_count m.config → (slot_at m v).phase ≡ Booting → HasMappedPages (slot_at m v).mapped (slot_at m v).images) → IsOrderly m
orderly-lawful m is images = record {
  frames = is.frames;
  slots = is.slots;
  each_slot = λ v low. record { listed = λ g f e. mapped-listed m v g f is low e; images = images v low; next_page = next-unmapped m v is low };
}
