-- How a dump is spelled.
use Rattle.std.specs.Prelude.{ℕ, ◌≡◌, ◌+◌, Bool, true, false, List, [], ◌∷◌, ◌++◌, length, drop, codes, Option, Some, None}
use Rattle.std.specs.Fmt.{decimal}
use Rattle.std.specs.List.{flat_map}
use Rattle.hex.specs.Hex.{encode_lower}
use Rattle.kc_types.specs.declared.version.Version.{Version}
use Rattle.kc_types.specs.declared.version.Version.TheVariants.{One, Two, Three}
use Rattle.kc_types.specs.declared.link.Ends.{Ends}
use Rattle.kc_types.specs.declared.owner.Owner.{Owner}
use Rattle.kc_types.specs.declared.owner.Owner.TheVariants.{Core, Host, Free, Vm}
use Rattle.kc_types.specs.declared.slot.Phase.{Phase}
use Rattle.kc_types.specs.declared.slot.Phase.TheVariants.{Empty, Booting, Active, Dead}
use Rattle.kc_dump.specs.declared.line.FrameLine.{FrameLine}
use Rattle.kc_dump.specs.Dump.{Dumped, SlotDump}
use Rattle.kc_dump_text.specs.declared.dump_line.DumpLine.{DumpLine}
use Rattle.kc_dump_text.specs.declared.dump_line.DumpLine.TheVariants.{SizeOf, FreeOf, VmOf, LeafOf, EntryOf, FrameOf}

-- words, each after a space
abbrev pub spaced : List (List ℕ) → List ℕ
spaced [] = []
spaced (word ∷ words) = 32 ∷ (word ++ spaced words)

-- a line with its newline
abbrev pub line : List ℕ → List (List ℕ) → List ℕ
line name words = name ++ (spaced words ++ 10 ∷ [])

-- a number, or a dash if there is none
abbrev pub or_dash : Option ℕ → List ℕ
or_dash None = codes "-"
or_dash (Some n) = decimal n

-- one or zero
abbrev pub bit : Bool → List ℕ
bit true = codes "1"
bit false = codes "0"

-- the name of a phase
abbrev pub phase_word : Phase → List ℕ
phase_word Empty = codes "empty"
phase_word Booting = codes "booting"
phase_word Active = codes "active"
phase_word Dead = codes "dead"

-- the name of an owner, or the number of its slot
abbrev pub owner_word : Owner → List ℕ
owner_word Core = codes "core"
owner_word Host = codes "host"
owner_word Free = codes "free"
owner_word (Vm v) = decimal v

-- the words of a list's ends
abbrev pub ends_words : Ends → List (List ℕ)
ends_words ends = or_dash ends.head ∷ or_dash ends.tail ∷ decimal ends.count ∷ []

-- the first line of each dump, with its newline; no dump of version 3 is read
abbrev pub dump_header : Version → List ℕ
dump_header One = codes "kcore-dump 1" ++ 10 ∷ []
dump_header Two = codes "kcore-dump 2" ++ 10 ∷ []
dump_header Three = codes "kcore-dump 3" ++ 10 ∷ []

-- the words of a frame's line after its share
abbrev pub frame_rest : FrameLine → List (List ℕ)
frame_rest frame = or_dash frame.gfn ∷ bit frame.present ∷ or_dash frame.prev ∷ or_dash frame.next ∷ encode_lower frame.digest ∷ []

-- the words of a frame's line after its number
abbrev pub frame_words : FrameLine → List (List ℕ)
frame_words frame = owner_word frame.owner ∷ decimal frame.share ∷ frame_rest frame

-- the word that a line begins with
abbrev pub name_of : DumpLine → List ℕ
name_of (SizeOf frames core leaves) = codes "size"
name_of (FreeOf ends) = codes "free"
name_of (VmOf v phase ends) = codes "vm"
name_of (LeafOf v n root) = codes "leaf"
name_of (EntryOf v entry) = codes "entry"
name_of (FrameOf f frame) = codes "frame"

-- the words after the name
abbrev pub words_of : DumpLine → List (List ℕ)
words_of (SizeOf frames core leaves) = decimal frames ∷ decimal core ∷ decimal leaves ∷ []
words_of (FreeOf ends) = ends_words ends
words_of (VmOf v phase ends) = decimal v ∷ phase_word phase ∷ ends_words ends
words_of (LeafOf v n root) = decimal v ∷ decimal n ∷ decimal root ∷ []
words_of (EntryOf v entry) = decimal v ∷ decimal entry.0 ∷ decimal entry.1 ∷ []
words_of (FrameOf f frame) = decimal f ∷ frame_words frame

-- the text of a line
abbrev pub spell : DumpLine → List ℕ
spell l = line (name_of l) (words_of l)

-- a line for each element, by number from this one on
abbrev pub made : {X : Type 0} → (ℕ → X → DumpLine) → ℕ → List X → List DumpLine
made make i [] = []
made make i (x ∷ xs) = make i x ∷ made make (i + 1) xs

-- the line of a slot
abbrev pub vm_of : ℕ → SlotDump → DumpLine
vm_of v slot = VmOf v slot.phase slot.list

-- the lines of some elements of each of these slots, the first of which has this number
abbrev pub gather : {X : Type 0} → (SlotDump → List X) → (ℕ → ℕ → X → DumpLine) → ℕ → List SlotDump → List DumpLine
gather pick make v [] = []
gather pick make v (slot ∷ slots) = made (make v) 0 (pick slot) ++ gather pick make (v + 1) slots

-- the lines of their leaves
abbrev pub leaves_of : ℕ → List SlotDump → List DumpLine
leaves_of v slots = gather (λ slot. slot.leaves) LeafOf v slots

-- the lines of their entries
abbrev pub entries_of : ℕ → List SlotDump → List DumpLine
entries_of v slots = gather (λ slot. slot.entries) (λ v i entry. EntryOf v entry) v slots

-- the lines of a dump after that of the free list
abbrev pub rest_of : Dumped → List DumpLine
rest_of d = made vm_of 0 d.slots ++ (leaves_of 0 d.slots ++ (entries_of 0 d.slots ++ made FrameOf 0 d.frames))

-- the lines of a dump after its header
abbrev pub dump_lines : Dumped → List DumpLine
dump_lines d = SizeOf (length d.frames) d.core d.leaves ∷ FreeOf d.free ∷ rest_of d

-- the one spelling of a dump
abbrev pub dump_text : Dumped → List ℕ
dump_text d = dump_header d.version ++ flat_map spell (dump_lines d)

-- the text with the lines of what is left, from this number on, is what was there with all lines
abbrev pub Writes : {X : Type 0} → (ℕ → List X → List DumpLine) → ℕ → List X → List ℕ → List ℕ → Type 0
Writes lines i xs old text = text ++ flat_map spell (lines i (drop i xs)) ≡ old ++ flat_map spell (lines 0 xs)
