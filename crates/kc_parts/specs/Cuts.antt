-- Parts taken out of parts, and parts put back.
use Rattle.std.specs.Prelude.{ℕ, ◌≡◌, ◌<◌, Bool, true, ◌&&◌, cond, List, length, get_or, Option, Some, None, IsSome}
use Rattle.std.specs.Option.{option_map}
use Rattle.kc_types.specs.declared.link.Ends.{Ends}
use Rattle.kc_types.specs.declared.resource.Resource.TheVariants as resource
use Rattle.kc_model.specs.Resources.{Resource, is_wanted}
use Rattle.kc_page.specs.declared.page.Page.{Page}
use Rattle.kc_vms.specs.Vm.{VmSlot}
use Rattle.kc_parts.specs.Parts.{Held, IsRising, HasPlace, is_among, page_at, vm_at}

-- what can be held of one resource: a page with its record and links, a slot with the ends of its list, or the ends of
-- the free list
pub data HeldPart : Type 0 where
  page_part : Page → HeldPart
  slot_part : VmSlot → HeldPart
  ends_part : Ends → HeldPart

-- what is held of a resource, or nothing if it is not here
abbrev pub held_at : Held → Resource → Option HeldPart
held_at h (resource.Frame f) = option_map page_part (page_at h f)
held_at h (resource.Vm v) = option_map slot_part (vm_at h v)
held_at h resource.Free = option_map ends_part h.free

-- all of the list is here
abbrev pub AreHere : Held → List Resource → Type 0
AreHere h wanted = (r : Resource) → is_wanted wanted r ≡ true → IsSome (held_at h r)

-- `taken` has what was there before and passes the test, `rest` has everything else and keeps its places, and both are
-- reserved if that was
pub record IsSplit (before : Held) (test : Resource → Bool) (rest taken : Held) : Type 0 where
  pub taken_is : (r : Resource) → held_at taken r ≡ cond (test r) (held_at before r) None
  pub rest_is : (r : Resource) → held_at rest r ≡ cond (test r) None (held_at before r)
  pub places : rest.numbers ≡ before.numbers
  pub slots : rest.vms.numbers ≡ before.vms.numbers
  pub reserved : (rest.is_reserved ≡ before.is_reserved) × (taken.is_reserved ≡ before.is_reserved)

-- the slots that pass the test and no others, each once
pub record AreSlotsFor (test : Resource → Bool) (numbers : List ℕ) : Type 0 where
  pub members : (v : ℕ) → is_among numbers v ≡ test (resource.Vm v)
  pub rising : IsRising numbers

-- `h` has a place for whatever `other` has, with nothing in it
pub record FitsInto (h other : Held) : Type 0 where
  pub pages : (f : ℕ) (page : Page) → page_at other f ≡ Some page → HasPlace h.numbers f × (page_at h f ≡ None)
  pub slots : (v : ℕ) (vm : VmSlot) → vm_at other v ≡ Some vm → HasPlace h.vms.numbers v × (vm_at h v ≡ None)
  pub ends : (ends : Ends) → other.free ≡ Some ends → h.free ≡ None

-- the first if there is one, and otherwise the second
abbrev pub either : {X : Type 0} → Option X → Option X → Option X
either (Some x) second = Some x
either None second = second

-- `after` has what either of the two has, and is reserved if both are
pub record IsJoin (one other after : Held) : Type 0 where
  pub parts : (r : Resource) → held_at after r ≡ either (held_at one r) (held_at other r)
  pub reserved : after.is_reserved ≡ (one.is_reserved && other.is_reserved)

-- no page is taken out: each place has one
abbrev pub IsFull : Held → Type 0
IsFull h = (i : ℕ) → i < length h.numbers → IsSome (page_at h (get_or h.numbers i 0))
