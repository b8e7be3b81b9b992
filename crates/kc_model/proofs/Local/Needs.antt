-- What a call needs, in the form that the proofs of its locality use.
use Rattle.std.proofs.Common.{ℕ, suc, ◌≡◌, ◌<◌, ◌+◌, inl, inr, Bool, true, false, ◌&&◌, ◌||◌, Option, Some, None, is_some, nat_lt, nat_eq, eq-eqb, List, [], ◌∷◌, refl, ap, ◌∙◌, arith}
use Rattle.std.specs.List.{list_any}
use Rattle.std.specs.Ordering.{nat_cmp}
use Rattle.std.specs.FinMap as map
use Rattle.std.proofs.lemmas.Bool.{cases_lt, lt-ltb, and_from, or_parts}
use Rattle.std.proofs.lemmas.Grind.{common_steps}
use Rattle.kc_types.specs.declared.call.Call.{Call}
use Rattle.kc_model.specs.State.{State, Slot, Image, slot_at, mapped_at}
use Rattle.kc_model.specs.Refusals.{backing, pages_of, is_short}
use Rattle.kc_model.specs.Resources.{Resources, is_in, names_frame, uses_free, of_slot, listed_in, need, IsWithin}
use Rattle.kc_model.specs.Local.{IsOrderly, HasMappedPages}
use Rattle.kc_model.proofs.Local.Merges.{HasFrame, HasSlot}
use Rattle.kc_model.proofs.Local.GuestLocals.{HasMapped, HasFrames}
use Rattle.kc_model.proofs.Local.VerifyLocal.{HasImages}
use Rattle.kc_model.proofs.States.Slots.{slot-past}
use Rattle.kc_types.specs.Configuration.{slot_count}
use Rattle.kc_types.specs.declared.resource.Resource.TheVariants as resource
use Rattle.kc_types.specs.Slots.{slot_of}

pub by_name : (a b c d : Bool) → a ≡ true → b ≡ true → ((a && b) || c || d) ≡ true
by_name true true c d x y = refl
by_name true false c d x y = cc
by_name false b c d x y = cc

pub by_slot : (a b c d : Bool) → c ≡ true → ((a && b) || c || d) ≡ true
by_slot true true true d is = refl
by_slot true false true d is = refl
by_slot false b true d is = refl
by_slot a b false d is = cc

pub by_free : (a b c d : Bool) → d ≡ true → ((a && b) || c || d) ≡ true
by_free true true c true is = refl
by_free true false true true is = refl
by_free true false false true is = refl
by_free false b true true is = refl
by_free false b false true is = refl
by_free a b c false is = cc

-- an image that is not short has all its pages
pub not_short : (image : Image) (g : ℕ) → is_short image ≡ false → g < image.base + pages_of image.len → g < image.base + image.pages
not_short image g full lt = grind (arith, common_steps)

-- a mapped frame is in the list of its slot
pub mapped_to : (m : State) → IsOrderly m → (v g : ℕ) → v < slot_count m.config → (at : Option ℕ) → mapped_at m v g ≡ at → is_some at ≡ true → is_in (slot_at m v).frames (backing at) ≡ true
mapped_to m is v g lt None e some = cc
mapped_to m is v g lt (Some f) e some = (is.each_slot v lt).listed g f e

module _ (here : Resources) (m : State) (call : Call) (is : IsOrderly m) (within : IsWithin (need m call) here) where
  pub has_named : (f : ℕ) → names_frame call f ≡ true → HasFrame here m f
  has_named f named lt = within (resource.Frame f) (by_name (names_frame call f) (nat_lt f m.config.frames) (of_slot m.config (listed_in m) (slot_of call) f) (uses_free call && is_in m.free f) named (lt-ltb f m.config.frames (rw is.frames at lt)))

  pub has_slot : (v : ℕ) → slot_of call ≡ Some v → HasSlot here m v
  has_slot v names lt = within (resource.Vm v) (rw names (and_from (nat_lt v (slot_count m.config)) (nat_eq v v) (lt-ltb v (slot_count m.config) (rw is.slots at lt)) (eq-eqb v v refl)))

  pub has_listed : (v f : ℕ) → slot_of call ≡ Some v → v < slot_count m.config → is_in (slot_at m v).frames f ≡ true → here (resource.Frame f) ≡ true
  has_listed v f names lt listed = within (resource.Frame f) (by_slot (names_frame call f) (nat_lt f m.config.frames) (of_slot m.config (listed_in m) (slot_of call) f) (uses_free call && is_in m.free f)
      (rw names (and_from (nat_lt v (slot_count m.config)) (is_in (slot_at m v).frames f) (lt-ltb v (slot_count m.config) lt) listed)))

  pub has_frames : (v : ℕ) → slot_of call ≡ Some v → HasFrames here m (slot_at m v).frames
  has_frames v names f listed lt = elim (cases_lt v (slot_count m.config)) [
    | inl low ↦ has_listed v f names low listed
    | inr high ↦ let none : is_in (slot_at m v).frames f ≡ false = ap (λ (there : Slot). is_in there.frames f) (slot-past m v is.slots high) in cc
  ]

  pub has_mapped : (v g : ℕ) → slot_of call ≡ Some v → HasMapped here m v g
  has_mapped v g names some lt = elim (cases_lt v (slot_count m.config)) [
    | inl low ↦ has_listed v (backing (mapped_at m v g)) names low (mapped_to m is v g low (mapped_at m v g) refl some)
    | inr high ↦ let none : is_some (mapped_at m v g) ≡ false = ap (λ (there : Slot). is_some (map.get there.mapped g)) (slot-past m v is.slots high) ∙ ap is_some (map.get-empty nat_cmp g) in cc
  ]

  pub has_free : (f : ℕ) → uses_free call ≡ true → is_in m.free f ≡ true → here (resource.Frame f) ≡ true
  has_free f uses listed = within (resource.Frame f) (by_free (names_frame call f) (nat_lt f m.config.frames) (of_slot m.config (listed_in m) (slot_of call) f) (uses_free call && is_in m.free f) (and_from (uses_free call) (is_in m.free f) uses listed))

  pub has_images : (v : ℕ) → slot_of call ≡ Some v → v < slot_count m.config → (images : List Image) → HasMappedPages (slot_at m v).mapped images → list_any is_short images ≡ false → HasImages here m v images
  has_images v names low [] pages whole = tt
  has_images v names low (image ∷ images) pages whole = (
    record {
      some = (pages 0 image (omega arith)).some;
      pages = λ g from below. has_mapped v g names ((pages 0 image (omega arith)).each_page g from (not_short image g (or_parts (is_short image) (list_any is_short images) whole).0 below));
    },
    has_images v names low images (λ i d within. pages (suc i) d (omega (arith, within))) (or_parts (is_short image) (list_any is_short images) whole).1,
  )
