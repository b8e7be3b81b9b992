-- Parts seen as a state, with the untouched value for a part that is not here.
use Rattle.std.specs.Prelude.{ℕ, ◌≡◌, ◌<◌, Bool, true, false, is_some, is_none, List, [], map, Option, Some, None}
use Rattle.std.specs.List.{range_with_len}
use Rattle.kc_types.specs.Configuration.{Configuration, slot_count}
use Rattle.kc_types.specs.declared.link.Ends.{Ends}
use Rattle.kc_types.specs.declared.owner.Owner.{Owner}
use Rattle.kc_types.specs.declared.owner.Owner.TheVariants.{Core, Host, Free, Vm}
use Rattle.kc_types.specs.declared.resource.Resource.TheVariants as resource
use Rattle.kc_model.specs.State.{State, Frame, Slot, untouched, no_slot, with_slot}
use Rattle.kc_model.specs.Resources.{Resource, Resources}
use Rattle.kc_model.specs.Lawful.{times_in}
use Rattle.kc_model.specs.Linked.{LinkedSlot}
use Rattle.kc_page.specs.declared.page.Page.{Page}
use Rattle.kc_page.specs.Page.{frame_of}
use Rattle.kc_vms.specs.Vm.{VmSlot, capacity_of}
use Rattle.kc_links.specs.Chain.{Links, unlinked}
use Rattle.kc_links.specs.Ending.{listed, IsList}
use Rattle.kc_parts.specs.Parts.{Held, is_sparse, page_at, vm_at, links_of, ends_at}

abbrev pub frame_in : Option Page → Frame
frame_in (Some page) = frame_of page
frame_in None = untouched Core

-- the list that links and ends spell
abbrev pub list_in : Links → Option Ends → List ℕ
list_in links (Some ends) = listed links ends
list_in links None = []

-- a slot with a list in place of the list's ends
abbrev pub unlinked_slot : LinkedSlot → List ℕ → Slot
unlinked_slot slot frames = record { phase = slot.phase; vcpus = slot.vcpus; images = slot.images; frames = frames; mapped = slot.mapped; leaves = slot.leaves }

abbrev pub slot_in : Links → Option VmSlot → Slot
slot_in links (Some vm) = unlinked_slot vm.slot (listed links vm.slot.frames)
slot_in links None = no_slot

abbrev pub state_of : Configuration → Held → State
state_of config h = record {
  config = config;
  frames = map (λ f. frame_in (page_at h f)) (range_with_len 0 config.frames);
  free = list_in (links_of h) h.free;
  slots = map (λ v. slot_in (links_of h) (vm_at h v)) (range_with_len 0 (slot_count config));
}

-- what is here
abbrev pub here_of : Held → Resources
here_of h (resource.Frame f) = is_some (page_at h f)
here_of h (resource.Vm v) = is_some (vm_at h v)
here_of h resource.Free = is_some h.free

abbrev pub owner_at : Held → ℕ → Owner
owner_at h f = (frame_in (page_at h f)).owner

-- the ends of the owner's list are not here; this never holds of the host, whose frames are in no list, and always of
-- the core, whose frames no call may touch
abbrev pub lacks_list : Held → Owner → Bool
lacks_list h Core = true
lacks_list h Host = false
lacks_list h Free = is_none h.free
lacks_list h (Vm v) = is_none (vm_at h v)

-- the ends of the frame's list are elsewhere, and whoever has them relies on its owner and its links
abbrev pub is_away : Held → ℕ → Bool
is_away h f = lacks_list h (owner_at h f)

-- the links of the frames spell the list of each owner whose ends are here
pub record AreLists (links : Links) (ends_at : Owner → Option Ends) (owner_at : ℕ → Owner) : Type 0 where
  pub spelled : (owner : Owner) (ends : Ends) → ends_at owner ≡ Some ends → IsList links ends
  -- a list has only frames of its owner
  pub owned : (owner : Owner) (ends : Ends) (f : ℕ) → ends_at owner ≡ Some ends → 0 < times_in (listed links ends) f → owner_at f ≡ owner
  -- the host's frames are in no list
  pub alone : (f : ℕ) → owner_at f ≡ Host → links f ≡ Some unlinked

-- reserved parts have memory for each page that is here
abbrev pub HasRoom : Held → Type 0
HasRoom h = h.is_reserved ≡ true → (f : ℕ) → is_sparse (page_at h f) ≡ false

-- the parts fit the configuration, their links and ends are those of lists, and they have memory if they are reserved
pub record IsLinked (config : Configuration) (h : Held) : Type 0 where
  pub frames : (f : ℕ) → is_some (page_at h f) ≡ true → f < config.frames
  pub vms : (v : ℕ) (vm : VmSlot) → vm_at h v ≡ Some vm → vm.capacity ≡ capacity_of config
  pub lists : AreLists (links_of h) (ends_at h) (owner_at h)
  pub room : HasRoom h

-- the free list, if its ends are here
abbrev pub free_of : Held → List ℕ
free_of h = list_in (links_of h) h.free

-- the frame is in no list
pub record IsLoose (h : Held) (f : ℕ) : Type 0 where
  pub alone : links_of h f ≡ Some unlinked
  pub absent : (owner : Owner) (ends : Ends) → ends_at h owner ≡ Some ends → times_in (listed (links_of h) ends) f ≡ 0

-- the free list changes, and nothing else that is seen
pub record IsFreeMove (old new : Held) : Type 0 where
  pub numbers : new.numbers ≡ old.numbers
  pub slots : new.vms.numbers ≡ old.vms.numbers
  pub filled : new.filled ≡ old.filled
  pub reserved : new.is_reserved ≡ old.is_reserved
  pub here : (r : Resource) → here_of new r ≡ here_of old r
  pub owners : (f : ℕ) → owner_at new f ≡ owner_at old f
  pub away : (f : ℕ) → is_away old f ≡ true → links_of new f ≡ links_of old f
  pub state : (config : Configuration) → state_of config new ≡ record (state_of config old) { free = free_of new }
  pub linked : (config : Configuration) → IsLinked config old → IsLinked config new

-- the list of a slot, if the slot is here
abbrev pub listed_frames : Held → ℕ → List ℕ
listed_frames h v = (slot_in (links_of h) (vm_at h v)).frames

-- the list of a slot changes, and nothing else that is seen
pub record IsSlotMove (v : ℕ) (old new : Held) : Type 0 where
  pub numbers : new.numbers ≡ old.numbers
  pub slots : new.vms.numbers ≡ old.vms.numbers
  pub filled : new.filled ≡ old.filled
  pub reserved : new.is_reserved ≡ old.is_reserved
  pub here : (r : Resource) → here_of new r ≡ here_of old r
  pub owners : (f : ℕ) → owner_at new f ≡ owner_at old f
  pub away : (f : ℕ) → is_away old f ≡ true → links_of new f ≡ links_of old f
  pub state : (config : Configuration) (vm : VmSlot) → vm_at old v ≡ Some vm → state_of config new ≡ with_slot (state_of config old) v (unlinked_slot vm.slot (listed_frames new v))
  pub linked : (config : Configuration) → IsLinked config old → IsLinked config new
