-- The parts of a state in which lists are links in the frames: a frame with its neighbours, a list by its ends.
use Rattle.std.specs.Prelude.{ℕ, List, [], ◌∷◌, length, Option, Some, None}
use Rattle.kc_types.specs.declared.call.Call.{Call}
use Rattle.kc_model.specs.State.{State, Frame, SlotOf, Slot, frame_at, slot_at}
use Rattle.kc_model.specs.Resources.{Resource}
pub use Rattle.kc_types.specs.declared.link.Ends.{Ends}
use Rattle.kc_model.specs.Links.{Link, first_of, link_at}
use Rattle.kc_model.specs.Footprints.{state_at}
use Rattle.kc_types.specs.declared.resource.Resource.TheVariants as resource

-- the last of a list, or what comes before the list if it is empty
abbrev pub last_of : Option ℕ → List ℕ → Option ℕ
last_of before [] = before
last_of before (x ∷ xs) = last_of (Some x) xs

-- the ends of a list, and the number of its frames
abbrev pub ends_of : List ℕ → Ends
ends_of xs = record { head = first_of xs; tail = last_of None xs; count = length xs }

-- a slot with the ends of its list in place of the list
abbrev pub LinkedSlot : Type 0
LinkedSlot = SlotOf Ends

abbrev pub linked_slot : Slot → LinkedSlot
linked_slot there = record { phase = there.phase; vcpus = there.vcpus; images = there.images; frames = ends_of there.frames; mapped = there.mapped; leaves = there.leaves }

pub data LinkedPart : Type 0 where
  frame_and_link : Frame → Link → LinkedPart
  slot_and_ends : LinkedSlot → LinkedPart
  free_ends : Ends → LinkedPart

abbrev pub linked_part_of : State → Resource → LinkedPart
linked_part_of m (resource.Frame f) = frame_and_link (frame_at m f) (link_at m f)
linked_part_of m (resource.Vm v) = slot_and_ends (linked_slot (slot_at m v))
linked_part_of m resource.Free = free_ends (ends_of m.free)

abbrev pub linked_part_at : State → List Call → ℕ → Resource → LinkedPart
linked_part_at m calls k r = linked_part_of (state_at m calls k) r
