-- A dump of which some lines have been read.
use Rattle.std.specs.Prelude.{ℕ, ◌≡◌, ◌<◌, ◌≤◌, ◌+◌, ◌==◌, Bool, true, false, List, [], ◌∷◌, ◌++◌, length, slice_set, slice_index_or, Option, Some, None, option_map, option_and_then, if◌then◌else◌}
use Rattle.std.specs.List.{flat_map}
use Rattle.kc_types.specs.Configuration.{slots_of}
use Rattle.kc_types.specs.declared.version.Version.{Version}
use Rattle.kc_types.specs.declared.link.Ends.{Ends}
use Rattle.kc_dump.specs.declared.line.FrameLine.{FrameLine}
use Rattle.kc_dump.specs.Dump.{Dumped, SlotDump, empty_dump}
use Rattle.kc_dump.specs.Ranges.{are_ends, IsDump}
use Rattle.kc_dump_text.specs.declared.fault.DumpFault.{DumpFault}
use Rattle.kc_dump_text.specs.declared.fault.DumpFault.TheVariants.{NoHeader, BadLine, Frame, Memory}
use Rattle.kc_dump_text.specs.declared.place.Place.{Place}
use Rattle.kc_dump_text.specs.declared.dump_line.DumpLine.{DumpLine}
use Rattle.kc_dump_text.specs.declared.dump_line.DumpLine.TheVariants.{SizeOf, FreeOf, VmOf, LeafOf, EntryOf, FrameOf}
use Rattle.kc_dump_text.specs.DumpText.{spell, rest_of, dump_lines}
use Rattle.kc_dump_text.specs.Lines.{line_read}
use Rattle.kc_dump_text.specs.Places.{is_size, is_other, start, chain, end}
use Rattle.kc_dump_text.specs.Refused.{DumpStopsFor}

-- the bytes before the first newline, if there is one
abbrev pub first_bytes : List ℕ → Option (List ℕ)
first_bytes [] = None
first_bytes (b ∷ bytes) = if b == 10 then Some [] else option_map (λ more. b ∷ more) (first_bytes bytes)

-- the first line of a text, if it is one of a dump
abbrev pub first_line : List ℕ → Option DumpLine
first_line text = option_and_then line_read (first_bytes text)

abbrev pub newlines : List ℕ → ℕ
newlines [] = 0
newlines (b ∷ bytes) = (if b == 10 then 1 else 0) + newlines bytes

-- the first line of the text passes the test
abbrev pub begins : (DumpLine → Bool) → Option DumpLine → Bool
begins is None = false
begins is (Some l) = is l

-- the text does not go on with a line that passes the test
abbrev pub HasNone : (DumpLine → Bool) → List ℕ → Type 0
HasNone is text = begins is (first_line text) ≡ false

-- the text goes on with the line of another frame than this
abbrev pub HasOther : Version → ℕ → ℕ → List ℕ → Type 0
HasOther version frames f text = (g : ℕ) × (frame : FrameLine) × (more : List ℕ) × (text ≡ spell (FrameOf g frame) ++ more) × (is_other version frames f (FrameOf g frame) ≡ true)

-- no line of a slot or a frame has been read
abbrev pub nothing : Version → ℕ → ℕ → Ends → Dumped
nothing version core leaves free = record { version = version; core = core; leaves = leaves; free = free; slots = []; frames = [] }

-- the slots with what a line says
abbrev pub slots_with : List SlotDump → DumpLine → List SlotDump
slots_with slots (VmOf v phase ends) = slots ++ record { phase = phase; list = ends; leaves = []; entries = [] } ∷ []
slots_with slots (LeafOf v n root) = let slot = slice_index_or slots v empty_dump in slice_set slots v (record slot { leaves = slot.leaves ++ root ∷ [] })
slots_with slots (EntryOf v entry) = let slot = slice_index_or slots v empty_dump in slice_set slots v (record slot { entries = slot.entries ++ entry ∷ [] })
slots_with slots _ = slots

-- the frames with what a line says
abbrev pub frames_with : List FrameLine → DumpLine → List FrameLine
frames_with frames (FrameOf f frame) = frames ++ frame ∷ []
frames_with frames _ = frames

abbrev pub with_line : Dumped → DumpLine → Dumped
with_line d l = record d { slots = slots_with d.slots l; frames = frames_with d.frames l }

-- the slot of the line exists
abbrev pub HasSlot : List SlotDump → DumpLine → Type 0
HasSlot slots (LeafOf v n root) = v < length slots
HasSlot slots (EntryOf v entry) = v < length slots
HasSlot slots _ = Unit {0}

-- the slots from this one on have no leaves
abbrev pub NoLeaves : ℕ → List SlotDump → Type 0
NoLeaves n slots = (k : ℕ) → n ≤ k → (slice_index_or slots k empty_dump).leaves ≡ []

-- the slots from this one on have no entries
abbrev pub NoEntries : ℕ → List SlotDump → Type 0
NoEntries n slots = (k : ℕ) → n ≤ k → (slice_index_or slots k empty_dump).entries ≡ []

-- a place that lines lead to: if slots are missing nothing else was read
pub record IsPlace (version : Version) (n : ℕ) (place : Place) : Type 0 where
  pub order : place.section ≤ 3
  pub slots : place.vm ≤ slots_of version
  pub frames : place.frame ≤ n
  pub early : place.vm < slots_of version → place.section ≡ 0

-- what was read of the dump is what the place says
pub record IsAt (d : Dumped) (place : Place) : Type 0 where
  pub slots : length d.slots ≡ place.vm
  pub leaves : NoLeaves (place.leaf.0 + 1) d.slots
  pub count : length (slice_index_or d.slots place.leaf.0 empty_dump).leaves ≡ place.leaf.1
  pub entries : NoEntries (place.entry.0 + 1) d.slots
  pub frames : length d.frames ≡ place.frame
  pub before_leaves : place.section < 1 → NoLeaves 0 d.slots
  pub before_entries : place.section < 2 → NoEntries 0 d.slots
  pub before_frames : place.section < 3 → d.frames ≡ []

-- the lines of a begun dump that should have this many frames
abbrev pub begun_lines : ℕ → Dumped → List DumpLine
begun_lines frames d = SizeOf frames d.core d.leaves ∷ FreeOf d.free ∷ rest_of d

-- a begun dump and the text after it, and the same further on
abbrev pub ReadsOn : ℕ → Dumped → List ℕ → Dumped → List ℕ → Type 0
ReadsOn frames d text e rest = flat_map spell (begun_lines frames d) ++ text ≡ flat_map spell (begun_lines frames e) ++ rest

-- the numbers of its first two lines are in range, and the other lines may follow one another, up to this place
pub record IsBegun (version : Version) (n : ℕ) (d : Dumped) (place : Place) : Type 0 where
  pub same : d.version ≡ version
  pub sizes : is_size version (SizeOf n d.core d.leaves) ≡ true
  pub free : are_ends n d.free ≡ true
  pub chain : chain version n start (rest_of d) ≡ true
  pub reached : end start (rest_of d) ≡ place
  pub right : IsPlace version n place
  pub here : IsAt d place

-- the text after the header has the lines of this dump
pub record IsTextOf (version : Version) (text : List ℕ) (d : Dumped) : Type 0 where
  pub whole : text ≡ flat_map spell (dump_lines d)
  pub range : IsDump d
  pub same : d.version ≡ version

-- the text after the header does not have the lines of a dump, or memory ran out
abbrev pub IsStuck : Version → List ℕ → DumpFault → Type 0
IsStuck version text NoHeader = ⊥
IsStuck version text (BadLine n) = DumpStopsFor version text (BadLine n)
IsStuck version text (Frame f) = DumpStopsFor version text (Frame f)
IsStuck version text Memory = Unit {0}
