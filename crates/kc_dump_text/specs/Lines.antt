-- How the words of a line are read.
use Rattle.std.specs.Prelude.{ℕ, ◌==◌, List, [], ◌∷◌, codes, Option, None, option_map, option_and_then, if◌then◌else◌}
use Rattle.std.specs.List.{slice_split}
use Rattle.std.specs.Str.{bytes_eq}
use Rattle.kc_types.specs.Limits.{frame_limit, gfn_limit}
use Rattle.kc_types.specs.declared.link.Ends.{Ends}
use Rattle.kc_dump.specs.declared.line.FrameLine.{FrameLine}
use Rattle.kc_lines.specs.Words.{number_in, at_end, digest_in}
use Rattle.kc_dump_text.specs.declared.dump_line.DumpLine.{DumpLine}
use Rattle.kc_dump_text.specs.declared.dump_line.DumpLine.TheVariants.{SizeOf, FreeOf, VmOf, LeafOf, EntryOf, FrameOf}
use Rattle.kc_dump_text.specs.Words.{nothing, below_of, or_dash_of, bit_of, phase_of, owner_of}

-- the first word is read, and then the words after it, in a way that may depend on its value
abbrev pub then_word : {X Y : Type 0} → (List ℕ → Option X) → (X → List (List ℕ) → Option Y) → List (List ℕ) → Option Y
then_word read next [] = None
then_word read next (word ∷ words) = option_and_then (λ x. next x words) (read word)

-- this value, if no word is left
abbrev pub no_more : {Y : Type 0} → Y → List (List ℕ) → Option Y
no_more y words = option_map (λ done. y) (at_end words)

-- the sizes of a machine
abbrev pub size_line : List (List ℕ) → Option DumpLine
size_line = then_word number_in (λ frames. then_word number_in (λ core. then_word number_in (λ leaves. no_more (SizeOf frames core leaves))))

-- the ends of a list, with nothing after them
abbrev pub ends_of : List (List ℕ) → Option Ends
ends_of = then_word (or_dash_of frame_limit) (λ head. then_word (or_dash_of frame_limit) (λ tail. then_word number_in (λ count. no_more (record { head = head; tail = tail; count = count }))))

-- the ends of the free list
abbrev pub free_line : List (List ℕ) → Option DumpLine
free_line words = option_map FreeOf (ends_of words)

-- a slot
abbrev pub vm_line : List (List ℕ) → Option DumpLine
vm_line = then_word number_in (λ v. then_word phase_of (λ phase words. option_map (VmOf v phase) (ends_of words)))

-- a leaf of a slot
abbrev pub leaf_line : List (List ℕ) → Option DumpLine
leaf_line = then_word number_in (λ v. then_word number_in (λ n. then_word number_in (λ root. no_more (LeafOf v n root))))

-- an entry of a slot
abbrev pub entry_line : List (List ℕ) → Option DumpLine
entry_line = then_word number_in (λ v. then_word (below_of gfn_limit) (λ gfn. then_word (below_of frame_limit) (λ frame. no_more (EntryOf v (gfn, frame)))))

-- the record of a frame, with nothing after it
abbrev pub record_of : List (List ℕ) → Option FrameLine
record_of =
    then_word owner_of (λ owner. then_word number_in (λ share. then_word (or_dash_of gfn_limit) (λ gfn. then_word bit_of (λ present.
    then_word (or_dash_of frame_limit) (λ prev. then_word (or_dash_of frame_limit) (λ next. then_word digest_in (λ digest.
    no_more (record { owner = owner; share = share; gfn = gfn; present = present; prev = prev; next = next; digest = digest }))))))))

-- a frame
abbrev pub frame_line : List (List ℕ) → Option DumpLine
frame_line = then_word number_in (λ f words. option_map (FrameOf f) (record_of words))

-- words that begin with this name are read in this way after the name, and words that begin with another as the rest
-- reads them
abbrev pub named : {Y : Type 0} → List ℕ → (List (List ℕ) → Option Y) → (List (List ℕ) → Option Y) → List (List ℕ) → Option Y
named name read rest [] = None
named name read rest (word ∷ words) = if bytes_eq word name then read words else rest (word ∷ words)

-- a line's words, read by the name that they begin with
unfoldable pub line_of_words : List (List ℕ) → Option DumpLine
line_of_words =
    named (codes "frame") frame_line (named (codes "entry") entry_line (named (codes "leaf") leaf_line
    (named (codes "vm") vm_line (named (codes "free") free_line (named (codes "size") size_line nothing)))))

-- the line that these bytes spell, without its newline
abbrev pub line_read : List ℕ → Option DumpLine
line_read bytes = line_of_words (slice_split (λ b. b == 32) bytes)
