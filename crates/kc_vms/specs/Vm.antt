-- A VM slot as a value, what holds of it alone, and how it changes.
use Rattle.std.specs.Prelude.{ℕ, ◌≡◌, ◌≤◌, List, [], length, All, slice_index_or}
use Rattle.kc_types.specs.Configuration.{Configuration, vcpus_of, roots_of, most_images}
use Rattle.kc_types.specs.declared.version.Version.{Version}
use Rattle.kc_types.specs.declared.slot.Phase.{Phase}
use Rattle.kc_types.specs.declared.slot.Phase.TheVariants.{Empty}
use Rattle.kc_model.specs.State.{Vcpu, Image, absent_vcpu, no_vcpus, empty_slot}
use Rattle.kc_model.specs.Lawful.{IsLawfulVcpu, IsLawfulImage, Apart}
use Rattle.kc_model.specs.Linked.{LinkedSlot, linked_slot}
use Rattle.kc_vms.specs.Stage2.{Table}

-- what a slot was made for: the version whose limits hold for it, and the root slots and the most leaves of its table
pub record Capacity : Type 0 where
  pub version : Version
  pub roots : ℕ
  pub leaves : ℕ

abbrev pub capacity_for : Version → ℕ → Capacity
capacity_for version leaves = record { version = version; roots = roots_of version; leaves = leaves }

-- that of the slots of a configuration
abbrev pub capacity_of : Configuration → Capacity
capacity_of c = capacity_for c.version c.leaves

-- a slot with the ends of its list, and what it was made for
pub record VmSlot : Type 0 where
  pub slot : LinkedSlot
  pub capacity : Capacity

-- what holds of a slot of a version alone, whatever its list and its table are
pub record IsSlot (version : Version) (phase : Phase) (vcpus : List Vcpu) (images : List Image) : Type 0 where
  pub vcpu_count : length vcpus ≡ vcpus_of version
  -- only a registered virtual processor of an active slot waits
  pub each_vcpu : (c : ℕ) → IsLawfulVcpu version phase (slice_index_or vcpus c absent_vcpu)
  pub few_images : length images ≤ most_images version
  pub each_image : All (IsLawfulImage version) images
  -- no guest frame is in two images
  pub apart : Apart images
  pub empty_vcpus : phase ≡ Empty → vcpus ≡ no_vcpus version
  pub empty_images : phase ≡ Empty → images ≡ []

abbrev pub IsVm : VmSlot → Type 0
IsVm vm = IsSlot vm.capacity.version vm.slot.phase vm.slot.vcpus vm.slot.images

-- a slot as at boot
abbrev pub empty_vm : Capacity → VmSlot
empty_vm capacity = record { slot = linked_slot (empty_slot capacity.version); capacity = capacity }

-- the table of the slot
abbrev pub slot_table : VmSlot → Table
slot_table vm = record { mapped = vm.slot.mapped; leaves = vm.slot.leaves; roots = vm.capacity.roots; capacity = vm.capacity.leaves }

abbrev pub with_table : VmSlot → Table → VmSlot
with_table vm table = record {
  slot = record vm.slot { mapped = table.mapped; leaves = table.leaves };
  capacity = record vm.capacity { roots = table.roots; leaves = table.capacity };
}
