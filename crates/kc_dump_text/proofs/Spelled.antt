-- What the lists of lines of a dump spell.
use Rattle.std.proofs.Common.{◌≡◌, ◌<◌, ℕ, ◌+◌, List, ◌∷◌, ◌++◌, length, drop, get_or, sym, ap, ◌∙◌, append_assoc}
use Rattle.std.specs.List.{flat_map}
use Rattle.std.proofs.lemmas.Grind.{flat_map-append}
use Rattle.std.proofs.lemmas.List.{drop_more}
use Rattle.kc_dump.specs.Dump.{Dumped, SlotDump}
use Rattle.kc_dump_text.specs.DumpText.{dump_header, spell, made, gather, vm_of, leaves_of, entries_of, dump_text}
use Rattle.kc_dump_text.specs.declared.dump_line.DumpLine.{DumpLine}
use Rattle.kc_dump_text.specs.declared.dump_line.DumpLine.TheVariants.{SizeOf, FreeOf, FrameOf}

-- the lines of one more slot
pub slot-more : {X : Type 0} (pick : SlotDump → List X) (make : ℕ → ℕ → X → DumpLine) (slots : List SlotDump) (v : ℕ) (slot : SlotDump) (text before more : List ℕ) → v < length slots → slot ≡ get_or slots v slot → before ++ flat_map spell (gather pick make v (drop v slots)) ≡ text
    → more ≡ before ++ flat_map spell (made (make v) 0 (pick slot)) → more ++ flat_map spell (gather pick make (v + 1) (drop (v + 1) slots)) ≡ text
slot-more pick make slots v slot text before more lt is begun grown =
    let rest = gather pick make (v + 1) (drop (v + 1) slots) in
    let left : gather pick make v (drop v slots) ≡ made (make v) 0 (pick slot) ++ rest = ap (gather pick make v) (drop_more slots v slot lt ∙ ap (λ (x : SlotDump). x ∷ drop (v + 1) slots) (sym is)) in
    ap (λ (l : List ℕ). l ++ flat_map spell rest) grown ∙ append_assoc before (flat_map spell (made (make v) 0 (pick slot))) (flat_map spell rest)
    ∙ ap (λ (l : List ℕ). before ++ l) (sym (ap (flat_map spell) left ∙ flat_map-append spell (made (make v) 0 (pick slot)) rest)) ∙ begun

-- the seven parts of a dump's text
pub parts-spelled : (d : Dumped) → (((((dump_header d.version ++ spell (SizeOf (length d.frames) d.core d.leaves)) ++ spell (FreeOf d.free)) ++ flat_map spell (made vm_of 0 d.slots)) ++ flat_map spell (leaves_of 0 d.slots)) ++ flat_map spell (entries_of 0 d.slots)) ++ flat_map spell (made FrameOf 0 d.frames) ≡ dump_text d
parts-spelled d = simp (flat_map-append, append_assoc)
