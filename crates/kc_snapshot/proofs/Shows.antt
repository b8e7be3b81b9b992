-- When parts are what a dump shows, with all that a dump leaves out.
use Rattle.std.specs.Prelude.{ℕ, ◌≡◌, ◌<◌, length, is_some, Some, None}
use Rattle.std.specs.List.{list_any}
use Rattle.std.specs.FinMap as finite
use Rattle.kc_types.specs.Configuration.{Configuration, slot_count}
use Rattle.kc_types.specs.declared.owner.Owner.TheVariants.{Free, Vm}
use Rattle.kc_types.specs.declared.slot.Phase.TheVariants.{Booting, Active}
use Rattle.kc_model.specs.State.{zero_page}
use Rattle.kc_model.specs.Lawful.{IsPage, holds}
use Rattle.kc_page.specs.declared.page.Page.{Page}
use Rattle.kc_types.specs.declared.version.Version.{Version}
use Rattle.kc_vms.specs.Vm.{VmSlot, IsSlot, capacity_of}
use Rattle.kc_parts.specs.Parts.{Held, page_at, vm_at}
use Rattle.kc_parts.specs.States.{HasRoom}
use Rattle.kc_parts.specs.Booting.{IsWhole}
use Rattle.kc_dump.specs.declared.line.FrameLine.{FrameLine}
use Rattle.kc_dump.specs.Dump.{Dumped, SlotDump, line_at, line_owner, slot_dump_at}

-- the record of the page is that of the line, and a free page has zero bytes
pub record ShowsPage (line : FrameLine) (page : Page) : Type 0 where
  pub owner : page.meta.owner ≡ line.owner
  pub share : page.meta.share ≡ line.share
  pub gfn : page.meta.gfn ≡ line.gfn
  pub present : page.meta.present ≡ line.present
  pub prev : page.meta.prev ≡ line.prev
  pub next : page.meta.next ≡ line.next
  pub zeroed : line.owner ≡ Free → page.bytes.bytes ≡ zero_page
  pub whole : IsPage page.bytes.bytes

-- the slot is the dump's, and while it boots, the images' pages so far are mapped and nothing else
pub record ShowsSlot (version : Version) (there : SlotDump) (vm : VmSlot) : Type 0 where
  pub phase : vm.slot.phase ≡ there.phase
  pub list : vm.slot.frames ≡ there.list
  pub leaves : vm.slot.leaves ≡ there.leaves
  pub entries : finite.entries vm.slot.mapped ≡ there.entries
  pub kept : IsSlot version vm.slot.phase vm.slot.vcpus vm.slot.images
  pub images : vm.slot.phase ≡ Booting → (g : ℕ) → is_some (finite.get vm.slot.mapped g) ≡ list_any (holds g) vm.slot.images

-- all of the configuration is here
pub record IsReadied (config : Configuration) (h : Held) : Type 0 where
  pub whole : IsWhole config h
  pub capacities : (v : ℕ) (vm : VmSlot) → vm_at h v ≡ Some vm → vm.capacity ≡ capacity_of config

-- the dump is of this configuration
pub record IsDumpOf (config : Configuration) (d : Dumped) : Type 0 where
  pub version : config.version ≡ d.version
  pub frames : config.frames ≡ length d.frames
  pub core : config.core ≡ d.core
  pub leaves : config.leaves ≡ d.leaves

-- only an active slot shares frames
abbrev pub SharesInActive : Dumped → Type 0
SharesInActive d = (v f : ℕ) → line_owner d.frames f ≡ Vm v → 0 < (line_at d.frames f).share → (slot_dump_at d v).phase ≡ Active

pub record Shows (config : Configuration) (d : Dumped) (h : Held) : Type 0 where
  pub readied : IsReadied config h
  pub dump : IsDumpOf config d
  pub free : h.free ≡ Some d.free
  pub each_page : (f : ℕ) (page : Page) → f < config.frames → page_at h f ≡ Some page → ShowsPage (line_at d.frames f) page
  pub each_slot : (v : ℕ) (vm : VmSlot) → v < slot_count config → vm_at h v ≡ Some vm → ShowsSlot config.version (slot_dump_at d v) vm
  pub shared : SharesInActive d
  pub room : HasRoom h
