-- The parts of the core that is made from a description.
use Rattle.std.specs.Prelude.{ℕ, ◌≡◌, ◌<◌, false, List, length, slice_index_or, Option, Some, None}
use Rattle.std.specs.FinMap as finite
use Rattle.kc_model.specs.Lawful.{IsPage}
use Rattle.kc_model.specs.State.{zero_page}
use Rattle.kc_page.specs.declared.page.Page.{Page}
use Rattle.kc_page.specs.PageBytes.{Content}
use Rattle.kc_vms.specs.Vm.{VmSlot, Capacity, capacity_for}
use Rattle.kc_dump.specs.declared.line.FrameLine.{FrameLine}
use Rattle.kc_dump.specs.Dump.{Dumped, SlotDump, slot_dump_at}
use Rattle.kc_dump.specs.Sound.{IsSound}
use Rattle.kc_dump.specs.Ranges.{IsDump}
use Rattle.kc_snapshot.specs.Told.{Told, SlotRest}
use Rattle.kc_snapshot.specs.Unlawful.{IsSized, AreSlotsTold, AreFramesTold, slot_rest_at, page_of}

-- nothing is wrong with the description
pub record IsJudged (t : Told) : Type 0 where
  pub range : IsDump t.dump
  pub sound : IsSound t.dump
  pub slots : AreSlotsTold t (length t.dump.slots)
  pub frames : AreFramesTold t (length t.dump.frames)
  pub pages : (f : ℕ) → f < length t.dump.frames → IsPage (page_of t.rest.pages f)

-- the page of a number, or a sparse page of zeros if there is none
abbrev pub content_of : List Content → ℕ → Content
content_of pages f = slice_index_or pages f (record { bytes = zero_page; is_reserved = false })

-- the page of these bytes, with the record that the dump shows
abbrev pub page_told : FrameLine → Content → Page
page_told line bytes = record {
  meta = record { owner = line.owner; share = line.share; gfn = line.gfn; present = line.present; prev = line.prev; next = line.next };
  bytes = bytes;
}

-- the slot is as described, and was made for this
pub record IsVmTold (capacity : Capacity) (slot : SlotDump) (rest : SlotRest) (vm : VmSlot) : Type 0 where
  pub phase : vm.slot.phase ≡ slot.phase
  pub vcpus : vm.slot.vcpus ≡ rest.vcpus
  pub images : vm.slot.images ≡ rest.images
  pub list : vm.slot.frames ≡ slot.list
  pub roots : vm.slot.leaves ≡ slot.leaves
  pub entries : finite.entries vm.slot.mapped ≡ slot.entries
  pub room : vm.capacity ≡ capacity

abbrev pub IsPlaceTold : Capacity → SlotDump → SlotRest → Option VmSlot → Type 0
IsPlaceTold capacity slot rest (Some vm) = IsVmTold capacity slot rest vm
IsPlaceTold capacity slot rest None = ⊥

-- the slots before this one are as described
abbrev pub AreVmsTold : Dumped → List SlotRest → List (Option VmSlot) → ℕ → Type 0
AreVmsTold d rests vms n = (v : ℕ) → v < n → IsPlaceTold (capacity_for d.version d.leaves) (slot_dump_at d v) (slot_rest_at rests v) (slice_index_or vms v None)
