-- What holds of every state of the core.
use Rattle.std.specs.Prelude.{ℕ, ◌+◌, ◌/◌, ◌≡◌, ◌≤◌, ◌<◌, ◌⊎◌, ◌↔◌, ◌==◌, ◌&&◌, nat_le, nat_lt, Bool, true, false, List, [], ◌∷◌, length, Some, is_some, IsTrue, All, slice_index_or, if◌then◌else◌}
use Rattle.std.specs.List.{list_any}
use Rattle.std.specs.FinMap as map
use Rattle.kc_types.specs.Limits.{page_size, share_limit, leaf_entries}
use Rattle.kc_types.specs.Configuration.{Configuration, IsConfiguration, slot_count, vcpus_of, gfns_of, roots_of, most_images, most_image_bytes}
use Rattle.kc_types.specs.declared.version.Version.{Version}
use Rattle.kc_types.specs.declared.owner.Owner.{Owner}
use Rattle.kc_types.specs.declared.owner.Owner.TheVariants.{Core, Host, Free, Vm}
use Rattle.kc_types.specs.declared.slot.Phase.{Phase}
use Rattle.kc_types.specs.declared.slot.Phase.TheVariants.{Empty, Booting, Active}
use Rattle.kc_model.specs.State.{State, Frame, Slot, Vcpu, Image, frame_at, slot_at, mapped_at, zero_page, absent_vcpu, empty_slot}
use Rattle.kc_model.specs.Refusals.{pages_of, overlaps}

abbrev pub same_owner : Owner → Owner → Bool
same_owner Core Core = true
same_owner Host Host = true
same_owner Free Free = true
same_owner (Vm v) (Vm w) = v == w
same_owner _ _ = false

abbrev pub is_vm : Owner → Bool
is_vm (Vm v) = true
is_vm _ = false

-- how often the list holds the frame
abbrev pub times_in : List ℕ → ℕ → ℕ
times_in [] f = 0
times_in (x ∷ xs) f = (if x == f then 1 else 0) + times_in xs f

-- the list holds each frame of the owner once, and no other
abbrev pub ListsOnce : State → Owner → List ℕ → Type 0
ListsOnce m owner frames = (f : ℕ) → times_in frames f ≡ (if same_owner (frame_at m f).owner owner then 1 else 0)

-- a page has all its bytes, and each is a byte
pub record IsPage (bytes : List ℕ) : Type 0 where
  pub whole : length bytes ≡ page_size
  pub each_byte : All (λ b. b < 256) bytes

-- what holds of the frame of this number alone
pub record IsLawfulFrame (config : Configuration) (f : ℕ) (frame : Frame) : Type 0 where
  -- the core owns the first frames and no other
  pub core : (frame.owner ≡ Core) ↔ (f < config.core)
  -- only a VM's frame is mapped, and each is
  pub mapped : is_some frame.gfn ≡ is_vm frame.owner
  pub shared : frame.share ≤ share_limit
  pub sharer : 0 < frame.share → IsTrue (is_vm frame.owner)
  -- the host reaches only its own frames and those shared with it
  pub reached : IsTrue frame.present → (frame.owner ≡ Host) ⊎ (0 < frame.share)
  pub zeroed : frame.owner ≡ Free → frame.bytes ≡ zero_page
  pub page : IsPage frame.bytes
  -- the slot and the guest frame that it names exist
  pub slot : (v : ℕ) → frame.owner ≡ Vm v → v < slot_count config
  pub gfn : (g : ℕ) → frame.gfn ≡ Some g → g < gfns_of config.version

-- whether the guest frame is one of the image's pages so far
abbrev pub holds : ℕ → Image → Bool
holds g image = nat_le image.base g && nat_lt g (image.base + image.pages)

pub record IsLawfulImage (version : Version) (image : Image) : Type 0 where
  pub some : 0 < image.len
  pub small : image.len ≤ most_image_bytes version
  pub within : image.base + pages_of image.len ≤ gfns_of version
  pub pages : image.pages ≤ pages_of image.len

-- no two images share a guest frame
abbrev pub Apart : List Image → Type 0
Apart [] = Unit {0}
Apart (image ∷ images) = (list_any (overlaps image.base image.len) images ≡ false) × Apart images

-- only a registered virtual processor of an active slot waits, for a guest frame that exists
pub record IsLawfulVcpu (version : Version) (phase : Phase) (vcpu : Vcpu) : Type 0 where
  pub registered : (g : ℕ) → vcpu.fault ≡ Some g → vcpu.registered ≡ true
  pub active : (g : ℕ) → vcpu.fault ≡ Some g → phase ≡ Active
  pub gfn : (g : ℕ) → vcpu.fault ≡ Some g → g < gfns_of version

-- whether the root slot of the guest frame has a leaf
abbrev pub has_leaf : List ℕ → ℕ → Bool
has_leaf leaves g = list_any (λ root. root == g / leaf_entries) leaves

-- what holds of a slot alone
pub record IsLawfulSlot (config : Configuration) (slot : Slot) : Type 0 where
  pub vcpus : length slot.vcpus ≡ vcpus_of config.version
  pub each_vcpu : (c : ℕ) → IsLawfulVcpu config.version slot.phase (slice_index_or slot.vcpus c absent_vcpu)
  pub few_images : length slot.images ≤ most_images config.version
  pub each_image : All (IsLawfulImage config.version) slot.images
  pub apart : Apart slot.images
  pub few_leaves : length slot.leaves ≤ config.leaves
  pub leaves_once : (root : ℕ) → times_in slot.leaves root ≤ 1
  pub each_leaf : All (λ root. root < roots_of config.version) slot.leaves
  -- a mapped guest frame has a leaf
  pub rooted : (g f : ℕ) → map.get slot.mapped g ≡ Some f → has_leaf slot.leaves g ≡ true
  -- during boot the images' pages so far are mapped, and nothing else
  pub booting : slot.phase ≡ Booting → (g : ℕ) → is_some (map.get slot.mapped g) ≡ list_any (holds g) slot.images
  -- an empty slot is as at boot
  pub empty : slot.phase ≡ Empty → slot ≡ empty_slot config.version

-- the invariant: every boot state has it, and every call keeps it
pub record IsLawful (m : State) : Type 0 where
  pub config : IsConfiguration m.config
  pub frames : length m.frames ≡ m.config.frames
  pub slots : length m.slots ≡ slot_count m.config
  pub each_frame : (f : ℕ) → f < length m.frames → IsLawfulFrame m.config f (frame_at m f)
  pub each_slot : (v : ℕ) → v < slot_count m.config → IsLawfulSlot m.config (slot_at m v)
  pub free : ListsOnce m Free m.free
  pub listed : (v : ℕ) → v < slot_count m.config → ListsOnce m (Vm v) (slot_at m v).frames
  -- a table maps a guest frame to a frame exactly if the frame says so
  pub mapped : (v g f : ℕ) → v < slot_count m.config → (mapped_at m v g ≡ Some f) ↔ (((frame_at m f).owner ≡ Vm v) × ((frame_at m f).gfn ≡ Some g))
  -- only an active slot shares frames
  pub shared : (v f : ℕ) → v < slot_count m.config → (frame_at m f).owner ≡ Vm v → 0 < (frame_at m f).share → (slot_at m v).phase ≡ Active
