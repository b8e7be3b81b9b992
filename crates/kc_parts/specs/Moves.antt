-- The steps by which parts are taken out and put back.
use Rattle.std.specs.Prelude.{ℕ, ◌≡◌, ◌<◌, ◌==◌, Bool, cond, List, length, get_or, slice_get, Option, None}
use Rattle.kc_types.specs.Limits.{frame_limit}
use Rattle.kc_types.specs.declared.resource.Resource.{Resource}
use Rattle.kc_types.specs.declared.resource.Resource.TheVariants as resource
use Rattle.kc_page.specs.declared.page.Page.{Page}
use Rattle.kc_vms.specs.Vm.{VmSlot}
use Rattle.kc_parts.specs.Parts.{Held, HeldSlots, IsRising, HasPlace, is_among, place_of, is_filled, page_at, held_slot}
use Rattle.kc_model.specs.Resources.{is_wanted}
use Rattle.kc_parts.specs.Cuts.{either}

-- the frames that are wanted, and no others
abbrev pub AreAmong : List Resource → List ℕ → Type 0
AreAmong wanted numbers = (f : ℕ) → is_among numbers f ≡ is_wanted wanted (resource.Frame f)

-- the slots that are wanted, and no others
abbrev pub AreSlotsAmong : List Resource → List ℕ → Type 0
AreSlotsAmong wanted numbers = (v : ℕ) → is_among numbers v ≡ is_wanted wanted (resource.Vm v)

abbrev pub AreFrames : List ℕ → Type 0
AreFrames numbers = (i : ℕ) → get_or numbers i 0 < frame_limit

-- the frames that are wanted, ascending
pub record AreFramesOf (wanted : List Resource) (numbers : List ℕ) : Type 0 where
  pub rising : IsRising numbers
  pub frames : AreFrames numbers
  pub members : AreAmong wanted numbers

-- `after` has this at the frame's place, and everything else as before
pub record IsWrite (f : ℕ) (page : Option Page) (before after : Held) : Type 0 where
  pub numbers : after.numbers ≡ before.numbers
  pub vms : after.vms ≡ before.vms
  pub free : after.free ≡ before.free
  pub reserved : after.is_reserved ≡ before.is_reserved
  pub pages : (g : ℕ) → page_at after g ≡ cond (g == f) page (page_at before g)

-- `after` lacks the pages of these frames, and has everything else as before
pub record IsLifted (frames : List ℕ) (before after : Held) : Type 0 where
  pub numbers : after.numbers ≡ before.numbers
  pub vms : after.vms ≡ before.vms
  pub free : after.free ≡ before.free
  pub reserved : after.is_reserved ≡ before.is_reserved
  pub pages : (g : ℕ) → page_at after g ≡ cond (is_among frames g) None (page_at before g)

-- the page of a frame among numbers, flags and pages
abbrev pub page_among : List ℕ → List Bool → List Page → ℕ → Option Page
page_among numbers filled pages f = slice_get pages (cond (is_filled numbers filled f) (place_of numbers f) (length pages))

-- there is a place for the frame, and nothing in it
abbrev pub IsEmptyPlace : Held → ℕ → Type 0
IsEmptyPlace h f = HasPlace h.numbers f × (page_at h f ≡ None)

-- `after` has what `before` has, and the pages too
pub record IsLaid (pages_of : ℕ → Option Page) (before after : Held) : Type 0 where
  pub numbers : after.numbers ≡ before.numbers
  pub vms : after.vms ≡ before.vms
  pub free : after.free ≡ before.free
  pub reserved : after.is_reserved ≡ before.is_reserved
  pub pages : (g : ℕ) → page_at after g ≡ either (page_at before g) (pages_of g)

-- a page at one frame
abbrev pub only_at : ℕ → Option Page → ℕ → Option Page
only_at f page g = cond (g == f) page None

-- everything but the slots is the same
abbrev pub WithSlots : Held → Held → Type 0
WithSlots before after = after ≡ record before { vms = after.vms }

-- there is a place for the slot, and nothing in it
abbrev pub IsEmptySlot : HeldSlots → ℕ → Type 0
IsEmptySlot held v = HasPlace held.numbers v × (held_slot held v ≡ None)

-- `after` has this at the slot's place, and everything else as before
pub record IsSlotWrite (v : ℕ) (vm : Option VmSlot) (before after : HeldSlots) : Type 0 where
  pub numbers : after.numbers ≡ before.numbers
  pub slots : (w : ℕ) → held_slot after w ≡ cond (w == v) vm (held_slot before w)

-- the slots with these numbers that were in the one have left it and joined the other
pub record AreMoved (moved : List ℕ) (from to left joined : HeldSlots) : Type 0 where
  pub left_is : (v : ℕ) → held_slot left v ≡ cond (is_among moved v) None (held_slot from v)
  pub joined_is : (v : ℕ) → held_slot joined v ≡ either (held_slot to v) (cond (is_among moved v) (held_slot from v) None)
  pub left_places : left.numbers ≡ from.numbers
  pub joined_places : joined.numbers ≡ to.numbers
