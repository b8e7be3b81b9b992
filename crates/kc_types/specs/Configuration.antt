-- What the core is started with.
use Rattle.std.specs.Prelude.{ℕ, Bool, true, false, ◌+◌, ◌/◌, ◌≤◌, ◌<◌, nat_lt, List, length, if◌then◌else◌}
use Rattle.kc_types.specs.Limits.{frame_limit, slot_limit, vcpu_limit, gfn_limit, leaf_entries, leaf_limit, image_limit, image_size_limit, digest_limit, first_frame_limit, second_frame_limit, first_slot_limit, second_slot_limit, first_vcpu_limit, first_gfn_limit, first_leaf_limit, first_image_limit, first_image_size_limit}
use Rattle.kc_types.specs.declared.version.Version.{Version}
use Rattle.kc_types.specs.declared.version.Version.TheVariants.{One, Two, Three}
use Rattle.kc_types.specs.declared.owner.Owner.{Owner}
use Rattle.kc_types.specs.declared.owner.Owner.TheVariants.{Core, Host, Free}

-- the most frames of a configuration
abbrev pub most_frames : Version → ℕ
most_frames One = first_frame_limit
most_frames Two = second_frame_limit
most_frames Three = frame_limit

-- the number of VM slots of a core
abbrev pub slots_of : Version → ℕ
slots_of One = first_slot_limit
slots_of Two = second_slot_limit
slots_of Three = slot_limit

-- the number of virtual processors of a VM
abbrev pub vcpus_of : Version → ℕ
vcpus_of One = first_vcpu_limit
vcpus_of Two = first_vcpu_limit
vcpus_of Three = vcpu_limit

-- the number of guest frames of a VM
abbrev pub gfns_of : Version → ℕ
gfns_of One = first_gfn_limit
gfns_of Two = first_gfn_limit
gfns_of Three = gfn_limit

-- the root slots of a VM's table, one for each leaf that it could have
abbrev pub roots_of : Version → ℕ
roots_of version = gfns_of version / leaf_entries

-- the most leaf tables of a VM
abbrev pub most_leaves : Version → ℕ
most_leaves One = first_leaf_limit
most_leaves Two = first_leaf_limit
most_leaves Three = leaf_limit

-- the most boot images of a VM, and the most bytes of one
abbrev pub most_images : Version → ℕ
most_images One = first_image_limit
most_images Two = first_image_limit
most_images Three = image_limit

abbrev pub most_image_bytes : Version → ℕ
most_image_bytes One = first_image_size_limit
most_image_bytes Two = first_image_size_limit
most_image_bytes Three = image_size_limit

-- whether a boot is approved as a whole, by its launch measurement, and not image by image
abbrev pub measures_launch : Version → Bool
measures_launch One = false
measures_launch Two = false
measures_launch Three = true

-- whether there are texts of a core's dump and of its state
abbrev pub has_dump : Version → Bool
has_dump One = true
has_dump Two = true
has_dump Three = false

-- `version` sets the limits; of all `frames` the first `core` are the core's for ever and the next `host` are the
-- host's at boot; each VM has `leaves` leaf tables; `approved` are the SHA-256 digests of the boot images that may run
pub record Configuration : Type 0 where
  pub version : Version
  pub frames : ℕ
  pub core : ℕ
  pub host : ℕ
  pub leaves : ℕ
  pub approved : List (List ℕ)

-- the number of VM slots
unfoldable pub slot_count : Configuration → ℕ
slot_count c = slots_of c.version

-- who owns a frame at boot: the first frames are the core's, the next the host's, and the rest are free
abbrev pub boot_owner : Configuration → ℕ → Owner
boot_owner c f = if nat_lt f c.core then Core else (if nat_lt f (c.core + c.host) then Host else Free)

-- every configuration keeps these limits
pub record IsConfiguration (c : Configuration) : Type 0 where
  pub some_frames : 0 < c.frames
  pub few_frames : c.frames ≤ most_frames c.version
  pub within : c.core + c.host ≤ c.frames
  pub some_leaves : 0 < c.leaves
  pub few_leaves : c.leaves ≤ most_leaves c.version
  pub few_digests : length c.approved ≤ digest_limit
