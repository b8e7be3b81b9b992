-- A dump of the core: every record, list and table, and the digest of each page in place of its bytes.
use Rattle.std.specs.Prelude.{ℕ, ◌==◌, ◌&&◌, Bool, List, [], None, false, slice_get, slice_index_or}
use Rattle.std.specs.Option.{option_map}
use Rattle.std.specs.List.{list_any}
use Rattle.kc_types.specs.declared.version.Version.{Version}
use Rattle.kc_types.specs.declared.link.Link.{Link}
use Rattle.kc_types.specs.declared.link.Ends.{Ends}
use Rattle.kc_types.specs.declared.owner.Owner.{Owner}
use Rattle.kc_types.specs.declared.owner.Owner.TheVariants.{Core}
use Rattle.kc_types.specs.declared.slot.Phase.{Phase}
use Rattle.kc_types.specs.declared.slot.Phase.TheVariants.{Empty}
use Rattle.kc_links.specs.Chain.{Links}
use Rattle.kc_dump.specs.declared.line.FrameLine.{FrameLine}

-- a slot: `list` has the ends of its list, `leaves` its root slots in the order in which they took leaves, `entries`
-- its guest frames with their frames, by ascending guest frame
pub record SlotDump : Type 0 where
  pub phase : Phase
  pub list : Ends
  pub leaves : List ℕ
  pub entries : List (ℕ × ℕ)

-- the version is the configuration's; the first `core` frames are the core's, a table has at most `leaves` leaves, and
-- `free` has the ends of the free list
pub record Dumped : Type 0 where
  pub version : Version
  pub core : ℕ
  pub leaves : ℕ
  pub free : Ends
  pub slots : List SlotDump
  pub frames : List FrameLine

-- the line of a frame past the last one
abbrev pub absent_line : FrameLine
absent_line = record { owner = Core; share = 0; gfn = None; present = false; prev = None; next = None; digest = [] }

abbrev pub line_at : List FrameLine → ℕ → FrameLine
line_at lines f = slice_index_or lines f absent_line

abbrev pub line_owner : List FrameLine → ℕ → Owner
line_owner lines f = (line_at lines f).owner

abbrev pub line_link : FrameLine → Link
line_link line = record { prev = line.prev; next = line.next }

-- the links of the frames
abbrev pub line_links : List FrameLine → Links
line_links lines f = option_map line_link (slice_get lines f)

abbrev pub no_ends : Ends
no_ends = record { head = None; tail = None; count = 0 }

-- a slot without a VM
abbrev pub empty_dump : SlotDump
empty_dump = record { phase = Empty; list = no_ends; leaves = []; entries = [] }

abbrev pub slot_dump_at : Dumped → ℕ → SlotDump
slot_dump_at d v = slice_index_or d.slots v empty_dump

-- the table of the slot leads from the guest frame to the frame
abbrev pub maps : SlotDump → ℕ → ℕ → Bool
maps slot g f = list_any (λ (e : ℕ × ℕ). e.0 == g && e.1 == f) slot.entries
