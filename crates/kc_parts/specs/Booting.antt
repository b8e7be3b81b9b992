-- The parts of the boot state.
use Rattle.std.specs.Prelude.{ℕ, ◌≡◌, ◌<◌, ◌+◌, Bool, false, true, List, length, replicate, Option, Some, None, is_some}
use Rattle.std.specs.List.{range_with_len}
use Rattle.kc_types.specs.Configuration.{Configuration, slot_count, boot_owner}
use Rattle.kc_types.specs.declared.link.Ends.{Ends}
use Rattle.kc_types.specs.declared.link.Link.{Link}
use Rattle.kc_model.specs.State.{zero_page}
use Rattle.kc_model.specs.Boot.{boot}
use Rattle.kc_model.specs.Links.{link_in, list_of}
use Rattle.kc_model.specs.Linked.{ends_of}
use Rattle.kc_page.specs.declared.page.Page.{Page}
use Rattle.kc_vms.specs.Vm.{VmSlot}
use Rattle.kc_parts.specs.Parts.{Held, HeldSlots, page_at, vm_at}
use Rattle.kc_parts.specs.States.{state_of, IsLinked}
use Rattle.kc_parts.specs.Cuts.{IsFull}

-- the first frame that is free at boot
abbrev pub first_free : Configuration → ℕ
first_free config = config.core + config.host

-- the neighbours of a frame: the free frames are linked in ascending order, the others are in no list
abbrev pub boot_link : Configuration → ℕ → Link
boot_link config f = link_in (list_of (boot config) (boot_owner config f)) f

-- the page of a frame, reserved or sparse
abbrev pub boot_page : Bool → Configuration → ℕ → Page
boot_page is_reserved config f = record {
  meta = record { owner = boot_owner config f; share = 0; gfn = None; present = false; prev = (boot_link config f).prev; next = (boot_link config f).next };
  bytes = record { bytes = zero_page; is_reserved = is_reserved };
}

-- the ends of the free list
abbrev pub boot_ends : Configuration → Ends
boot_ends config = ends_of (boot config).free

-- the slots in the places of their numbers
abbrev pub slots_of : List (Option VmSlot) → HeldSlots
slots_of vms = record { numbers = range_with_len 0 (length vms); slots = vms }

-- pages and slots in the places of their numbers, and the ends of the free list; the parts are reserved or sparse
abbrev pub parts_of : List Page → List (Option VmSlot) → Ends → Bool → Held
parts_of pages vms free is_reserved = record {
  numbers = range_with_len 0 (length pages);
  filled = replicate (length pages) true;
  pages = pages;
  vms = slots_of vms;
  free = Some free;
  is_reserved = is_reserved;
}

-- everything that the configuration has is here, in the places of its numbers, and there is no slot past the last
pub record IsWhole (config : Configuration) (h : Held) : Type 0 where
  pub numbers : h.numbers ≡ range_with_len 0 config.frames
  pub frames : (f : ℕ) → f < config.frames → is_some (page_at h f) ≡ true
  pub vms : (v : ℕ) → v < slot_count config → is_some (vm_at h v) ≡ true
  pub past : (v : ℕ) → is_some (vm_at h v) ≡ true → v < slot_count config
  pub free : is_some h.free ≡ true

-- all parts of the boot state are here, reserved or sparse, and none is taken out
pub record IsBooted (config : Configuration) (is_reserved : Bool) (h : Held) : Type 0 where
  pub state : state_of config h ≡ boot config
  pub linked : IsLinked config h
  pub whole : IsWhole config h
  pub full : IsFull h
  pub slots : h.vms.numbers ≡ range_with_len 0 (slot_count config)
  pub reserved : h.is_reserved ≡ is_reserved
