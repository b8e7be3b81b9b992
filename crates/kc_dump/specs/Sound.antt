-- What a dump of a core that is in order shows.
use Rattle.std.specs.Prelude.{ℕ, ◌≡◌, ◌<◌, ◌≤◌, ◌⊎◌, ◌↔◌, true, length, Some, is_some, IsTrue}
use Rattle.kc_types.specs.declared.owner.Owner.TheVariants.{Core, Host, Free, Vm}
use Rattle.kc_types.specs.declared.slot.Phase.TheVariants.{Empty}
use Rattle.kc_model.specs.State.{zero_page}
use Rattle.kc_model.specs.Lawful.{is_vm, times_in, has_leaf}
use Rattle.kc_links.specs.Chain.{unlinked}
use Rattle.sha2.specs.Sha256.{sha256}
use Rattle.kc_dump.specs.declared.line.FrameLine.{FrameLine}
use Rattle.kc_dump.specs.Dump.{Dumped, SlotDump, line_at, line_owner, line_link, slot_dump_at, empty_dump, maps}
use Rattle.kc_dump.specs.Lists.{HasList}

-- what is true of the frame of this number alone
pub record IsSoundFrame (core : ℕ) (f : ℕ) (line : FrameLine) : Type 0 where
  -- the core owns the first frames and no other
  pub placed : (line.owner ≡ Core) ↔ (f < core)
  -- the core's and the host's frames have no neighbours
  pub core_alone : line.owner ≡ Core → line_link line ≡ unlinked
  pub host_alone : line.owner ≡ Host → line_link line ≡ unlinked
  -- only a VM's frame is mapped, and each is
  pub mapped : is_some line.gfn ≡ is_vm line.owner
  pub sharer : 0 < line.share → IsTrue (is_vm line.owner)
  -- the host reaches only its own frames and those shared with it
  pub reached : IsTrue line.present → (line.owner ≡ Host) ⊎ (0 < line.share)
  pub zeroed : line.owner ≡ Free → line.digest ≡ sha256 zero_page

-- what is true of one slot alone
pub record IsSoundSlot (leaves : ℕ) (slot : SlotDump) : Type 0 where
  pub few_leaves : length slot.leaves ≤ leaves
  pub leaves_once : (root : ℕ) → times_in slot.leaves root ≤ 1
  -- a mapped guest frame has a leaf
  pub rooted : (g f : ℕ) → maps slot g f ≡ true → has_leaf slot.leaves g ≡ true
  pub empty : slot.phase ≡ Empty → slot ≡ empty_dump

pub record IsSound (d : Dumped) : Type 0 where
  pub each_frame : (f : ℕ) → f < length d.frames → IsSoundFrame d.core f (line_at d.frames f)
  pub each_slot : (v : ℕ) → v < length d.slots → IsSoundSlot d.leaves (slot_dump_at d v)
  -- ends and links spell the lists of the free frames and of each slot's frames
  pub free : HasList d.frames Free d.free
  pub listed : (v : ℕ) → v < length d.slots → HasList d.frames (Vm v) (slot_dump_at d v).list
  -- a table maps a guest frame to a frame exactly if the frame says so
  pub mapped : (v g f : ℕ) → (maps (slot_dump_at d v) g f ≡ true) ↔ ((line_owner d.frames f ≡ Vm v) × ((line_at d.frames f).gfn ≡ Some g))
