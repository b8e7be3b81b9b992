-- A VM slot as a value, and how it changes. Its frames are a list in the state of the core, or the ends of that list
-- if links spell it.
use Rattle.std.specs.Prelude.{ℕ, ◌+◌, false, List, [], ◌∷◌, ◌++◌, replicate, slice_index_or, slice_set, Option, None}
use Rattle.std.specs.Ordering.{nat_cmp}
use Rattle.std.specs.FinMap as map
use Rattle.kc_types.specs.Configuration.{vcpus_of}
use Rattle.kc_types.specs.declared.version.Version.{Version}
pub use Rattle.kc_types.specs.declared.slot.Vcpu.{Vcpu}
pub use Rattle.kc_types.specs.declared.slot.Image.{Image}
use Rattle.kc_types.specs.declared.slot.Phase.{Phase}
use Rattle.kc_types.specs.declared.slot.Phase.TheVariants.{Empty}

-- `frames` are its frames in order of arrival, `mapped` leads from guest frames to frames, `leaves` are its root slots
-- in the order in which they were taken
pub record SlotOf (Frames : Type 0) : Type 0 where
  pub phase : Phase
  pub vcpus : List Vcpu
  pub images : List Image
  pub frames : Frames
  pub mapped : map.FinMap nat_cmp ℕ
  pub leaves : List ℕ

abbrev pub Slot : Type 0
Slot = SlotOf (List ℕ)

abbrev pub absent_vcpu : Vcpu
absent_vcpu = record { registered = false; fault = None }

-- the slot that is read if there is none
abbrev pub no_slot : Slot
no_slot = record { phase = Empty; vcpus = []; images = []; frames = []; mapped = map.empty; leaves = [] }

-- as many as a VM of the version has, none of them registered
unfoldable pub no_vcpus : Version → List Vcpu
no_vcpus version = replicate (vcpus_of version) absent_vcpu

-- a slot as at boot
abbrev pub empty_slot : Version → Slot
empty_slot version = record no_slot { vcpus = no_vcpus version }

-- what the slot has under a number
abbrev pub vcpu_of : {Frames : Type 0} → SlotOf Frames → ℕ → Vcpu
vcpu_of slot c = slice_index_or slot.vcpus c absent_vcpu

abbrev pub image_of : {Frames : Type 0} → SlotOf Frames → ℕ → Image
image_of slot i = slice_index_or slot.images i (record { base = 0; len = 0; pages = 0 })

-- the guest frame of the next page of an image
abbrev pub next_gfn_of : {Frames : Type 0} → SlotOf Frames → ℕ → ℕ
next_gfn_of slot i = (image_of slot i).base + (image_of slot i).pages

-- the slot in another phase, with one virtual processor changed, with one that waits for a guest frame or for none
abbrev pub in_phase : {Frames : Type 0} → SlotOf Frames → Phase → SlotOf Frames
in_phase slot phase = record slot { phase = phase }

abbrev pub with_vcpu : {Frames : Type 0} → SlotOf Frames → ℕ → Vcpu → SlotOf Frames
with_vcpu slot c vcpu = record slot { vcpus = slice_set slot.vcpus c vcpu }

abbrev pub awaiting : {Frames : Type 0} → SlotOf Frames → ℕ → Option ℕ → SlotOf Frames
awaiting slot c fault = with_vcpu slot c (record (vcpu_of slot c) { fault = fault })

-- the slot with one more image, which has no pages yet, and with one more page of an image
abbrev pub with_image : {Frames : Type 0} → SlotOf Frames → ℕ → ℕ → SlotOf Frames
with_image slot base len = record slot { images = slot.images ++ record { base = base; len = len; pages = 0 } ∷ [] }

abbrev pub with_image_page : {Frames : Type 0} → SlotOf Frames → ℕ → SlotOf Frames
with_image_page slot i = record slot { images = slice_set slot.images i (record (image_of slot i) { pages = (image_of slot i).pages + 1 }) }
