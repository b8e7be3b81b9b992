-- The state of the core as a value: what the calls read and change, without links, pools and leaf numbers.
use Rattle.std.specs.Prelude.{ℕ, ◌+◌, Bool, false, List, length, replicate, take, drop, ◌++◌, slice_index_or, slice_set, Option, None}
use Rattle.std.specs.FinMap as map
use Rattle.kc_types.specs.Limits.{page_size}
use Rattle.kc_types.specs.Configuration.{Configuration}
use Rattle.kc_types.specs.declared.owner.Owner.{Owner}
use Rattle.kc_types.specs.declared.owner.Owner.TheVariants.{Core}
pub use Rattle.kc_model.specs.Slot.{SlotOf, Slot, Vcpu, Image, absent_vcpu, no_slot, empty_slot, vcpu_of, image_of, with_vcpu}
unfoldable pub use Rattle.kc_model.specs.Slot.{no_vcpus}
use Rattle.kc_model.specs.Bytes.{as_bytes}

-- a frame of memory: who owns it, how many grants it has, where its VM sees it, whether the host reaches it, its bytes
pub record Frame : Type 0 where
  pub owner : Owner
  pub share : ℕ
  pub gfn : Option ℕ
  pub present : Bool
  pub bytes : List ℕ

pub record State : Type 0 where
  pub config : Configuration
  pub frames : List Frame
  pub free : List ℕ
  pub slots : List Slot

-- a page of zero bytes; it does not unfold by itself, since it is 4,096 long
unfoldable pub zero_page : List ℕ
zero_page = replicate page_size 0

-- a frame as it is before anything is done to it
abbrev pub untouched : Owner → Frame
untouched owner = record { owner = owner; share = 0; gfn = None; present = false; bytes = zero_page }

-- what the state has under a number, and the untouched value if there is nothing
abbrev pub frame_at : State → ℕ → Frame
frame_at m f = slice_index_or m.frames f (untouched Core)

abbrev pub slot_at : State → ℕ → Slot
slot_at m v = slice_index_or m.slots v no_slot

abbrev pub vcpu_at : State → ℕ → ℕ → Vcpu
vcpu_at m v c = vcpu_of (slot_at m v) c

abbrev pub image_at : State → ℕ → ℕ → Image
image_at m v i = image_of (slot_at m v) i

abbrev pub mapped_at : State → ℕ → ℕ → Option ℕ
mapped_at m v g = map.get (slot_at m v).mapped g

-- the state with one frame, or one slot, changed
abbrev pub with_frame : State → ℕ → Frame → State
with_frame m f frame = record m { frames = slice_set m.frames f frame }

abbrev pub with_slot : State → ℕ → Slot → State
with_slot m v slot = record m { slots = slice_set m.slots v slot }

-- the bytes with these written over them from an offset on
abbrev pub overwritten : List ℕ → ℕ → List ℕ → List ℕ
overwritten bytes off written = take off bytes ++ as_bytes written ++ drop (off + length written) bytes
