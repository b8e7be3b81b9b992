-- One more line of a begun dump.
use Rattle.std.proofs.Common.{ℕ, zero, suc, ◌≡◌, ◌<◌, ◌≤◌, ◌+◌, Bool, true, ◌&&◌, nat_lt, nat_le, List, [], ◌∷◌, ◌++◌, length, get_or, set, refl, sym, ap, ◌∙◌, append_assoc, arith, inl, inr, length-append}
use Rattle.std.specs.Prelude.{◌==◌}
use Rattle.std.specs.List.{flat_map}
use Rattle.std.proofs.lemmas.Bool.{and_parts, and_from, or_cases, eqb-true, ltb-true, cases_eq}
use Rattle.std.proofs.lemmas.Grind.{flat_map-append}
use Rattle.std.proofs.lemmas.List.{append-nil, get_or-set_same, get_or-set_other, length-set}
use Rattle.kc_types.specs.Configuration.{slots_of}
use Rattle.kc_types.specs.declared.version.Version.{Version}
use Rattle.kc_dump.specs.Dump.{Dumped, SlotDump, empty_dump}
use Rattle.kc_dump_text.specs.declared.place.Place.{Place}
use Rattle.kc_dump_text.specs.declared.dump_line.DumpLine.{DumpLine}
use Rattle.kc_dump_text.specs.declared.dump_line.DumpLine.TheVariants.{SizeOf, FreeOf, VmOf, LeafOf, EntryOf, FrameOf}
use Rattle.kc_dump_text.specs.DumpText.{spell, made, gather, vm_of, leaves_of, entries_of, rest_of}
use Rattle.kc_dump_text.specs.Places.{may, place_after, start, chain, end}
use Rattle.kc_dump_text.specs.Begun.{with_line, HasSlot, NoLeaves, NoEntries, IsPlace, IsAt, begun_lines, ReadsOn, IsBegun}
use Rattle.kc_dump_text.proofs.Chains.{end-both, May, may-parts, chain-both}

made-push : {X : Type 0} (make : ℕ → X → DumpLine) (i : ℕ) (xs : List X) (x : X) → made make i (xs ++ x ∷ []) ≡ made make i xs ++ make (i + length xs) x ∷ []
made-push make i [] x = ap (λ n. make n x ∷ []) (let e : i ≡ i + 0 = omega arith in e)
made-push make i (y ∷ xs) x = ap (λ (l : List DumpLine). make i y ∷ l) (made-push make (i + 1) xs x ∙ ap (λ n. made make (i + 1) xs ++ make n x ∷ []) (let e : i + 1 + length xs ≡ i + suc (length xs) = omega arith in e))

-- the slots from this one on have none
abbrev Bare : {X : Type 0} → (SlotDump → List X) → ℕ → List SlotDump → Type 0
Bare pick n slots = (k : ℕ) → n ≤ k → pick (get_or slots k empty_dump) ≡ []

bare-push : {X : Type 0} (pick : SlotDump → List X) (slots : List SlotDump) (new : SlotDump) → pick empty_dump ≡ [] → pick new ≡ [] → Bare pick 0 slots → Bare pick 0 (slots ++ new ∷ [])
bare-push pick [] new none is bare zero l = is
bare-push pick [] new none is bare (suc k) l = none
bare-push pick (slot ∷ slots) new none is bare zero l = bare 0 l
bare-push pick (slot ∷ slots) new none is bare (suc k) l = bare-push pick slots new none is (λ j m. bare (suc j) (omega arith)) k (omega arith)

gather-bare : {X : Type 0} (pick : SlotDump → List X) (make : ℕ → ℕ → X → DumpLine) (v : ℕ) (slots : List SlotDump) → Bare pick 0 slots → gather pick make v slots ≡ []
gather-bare pick make v [] bare = refl
gather-bare pick make v (slot ∷ slots) bare = rw (bare 0 (omega arith)) (gather-bare pick make (v + 1) slots (λ k l. bare (suc k) (omega arith)))

gather-push : {X : Type 0} (pick : SlotDump → List X) (make : ℕ → ℕ → X → DumpLine) (v k : ℕ) (slots : List SlotDump) (new : SlotDump) (x : X) → k < length slots → Bare pick (k + 1) slots
    → pick new ≡ pick (get_or slots k empty_dump) ++ x ∷ [] → gather pick make v (set slots k new) ≡ gather pick make v slots ++ make (v + k) (length (pick (get_or slots k empty_dump))) x ∷ []
gather-push pick make v k [] new x low bare is = absurd (omega (arith, low))
gather-push pick make v zero (slot ∷ slots) new x low bare is =
    let none : gather pick make (v + 1) slots ≡ [] = gather-bare pick make (v + 1) slots (λ k l. bare (suc k) (omega arith)) in
    let e : v ≡ v + 0 = omega arith in
    let z : 0 + length (pick slot) ≡ length (pick slot) = omega arith in
    rw (none, is, made-push (make v) 0 (pick slot) x) (simp (append-nil, z, sym e))
gather-push pick make v (suc k) (slot ∷ slots) new x low bare is =
    let e : v + 1 + k ≡ v + suc k = omega arith in
    rw (gather-push pick make (v + 1) k slots new x (omega (arith, low)) (λ j l. bare (suc j) (omega (arith, l))) is, e)
    (sym (append_assoc (made (make v) 0 (pick slot)) (gather pick make (v + 1) slots) (make (v + suc k) (length (pick (get_or slots k empty_dump))) x ∷ [])))

-- the lines of what a slot keeps
gather-same : {X : Type 0} (pick : SlotDump → List X) (make : ℕ → ℕ → X → DumpLine) (v k : ℕ) (slots : List SlotDump) (new : SlotDump) → k < length slots → pick new ≡ pick (get_or slots k empty_dump) → gather pick make v (set slots k new) ≡ gather pick make v slots
gather-same pick make v k [] new low is = absurd (omega (arith, low))
gather-same pick make v zero (slot ∷ slots) new low is = rw is refl
gather-same pick make v (suc k) (slot ∷ slots) new low is = rw (gather-same pick make (v + 1) k slots new (omega (arith, low)) is) refl

vms-same : (v k : ℕ) (slots : List SlotDump) (new : SlotDump) → k < length slots → vm_of 0 new ≡ vm_of 0 (get_or slots k empty_dump) → made vm_of v (set slots k new) ≡ made vm_of v slots
vms-same v k [] new low same = absurd (omega (arith, low))
vms-same v zero (slot ∷ slots) new low same = let p : new.phase ≡ slot.phase = cc in let e : new.list ≡ slot.list = cc in rw (p, e) refl
vms-same v (suc k) (slot ∷ slots) new low same = rw (vms-same (v + 1) k slots new (omega (arith, low)) same) refl

-- what a slot that changed keeps
kept : {X : Type 0} (pick : SlotDump → List X) (slots : List SlotDump) (w : ℕ) (new : SlotDump) (j : ℕ) → w < length slots → pick new ≡ pick (get_or slots w empty_dump) → pick (get_or (set slots w new) j empty_dump) ≡ pick (get_or slots j empty_dump)
kept pick slots w new j low same = elim (cases_eq j w) [ inl e ↦ rw (e, get_or-set_same slots w new empty_dump low) same | inr e ↦ ap pick (get_or-set_other slots w j new empty_dump e) ]

-- there are no leaves and no entries
bare-tables : (slots : List SlotDump) (lines : List DumpLine) → NoLeaves 0 slots → NoEntries 0 slots → made vm_of 0 slots ++ (leaves_of 0 slots ++ (entries_of 0 slots ++ lines)) ≡ made vm_of 0 slots ++ lines
bare-tables slots lines leaves entries = rw (gather-bare (λ (s : SlotDump). s.leaves) LeafOf 0 slots leaves, gather-bare (λ (s : SlotDump). s.entries) (λ v i e. EntryOf v e) 0 slots entries) refl

module _ (version : Version) (n : ℕ) where
  -- a line that may come names a slot that exists
  pub has-slot : (d : Dumped) (place : Place) (l : DumpLine) → IsAt d place → may version n place l ≡ true → HasSlot d.slots l
  has-slot d place (SizeOf f c k) here is = tt
  has-slot d place (FreeOf ends) here is = tt
  has-slot d place (VmOf v p ends) here is = tt
  has-slot d place (FrameOf f line) here is = tt
  has-slot d place (LeafOf v i root) here is =
      let m = may-parts version n place (LeafOf v i root) is in
      omega (arith, ltb-true v (slots_of version) (and_parts _ _ (and_parts _ _ m.range).0).0, eqb-true place.vm (slots_of version) (and_parts _ _ m.next).0, here.slots)
  has-slot d place (EntryOf v x) here is =
      let m = may-parts version n place (EntryOf v x) is in
      omega (arith, ltb-true v (slots_of version) (and_parts _ _ (and_parts _ _ m.range).0).0, eqb-true place.vm (slots_of version) (and_parts _ _ m.next).0, here.slots)

  not-early : {A : Type 0} (place : Place) (b : Bool) → (place.vm == slots_of version && b) ≡ true → place.vm < slots_of version → A
  not-early place b next low = let all = eqb-true place.vm (slots_of version) (and_parts _ b next).0 in absurd (omega (arith, all, low))

  place-more : (place : Place) (l : DumpLine) → IsPlace version n place → May version n place l → IsPlace version n (place_after place l)
  place-more place (SizeOf f c k) right m = right
  place-more place (FreeOf ends) right m = right
  place-more place (VmOf v p ends) right m = record { order = right.order; slots = omega (arith, ltb-true v (slots_of version) (and_parts _ _ m.range).0); frames = right.frames; early = λ l. omega (arith, m.order) }
  place-more place (LeafOf v i root) right m = record { order = omega arith; slots = right.slots; frames = right.frames; early = not-early place _ m.next }
  place-more place (EntryOf v x) right m = record { order = omega arith; slots = right.slots; frames = right.frames; early = not-early place _ m.next }
  place-more place (FrameOf f line) right m = record { order = omega arith; slots = right.slots; frames = omega (arith, ltb-true f n (and_parts _ _ m.range).0); early = not-early place _ m.next }

  added : (d : Dumped) (place : Place) (l : DumpLine) → IsAt d place → may version n place l ≡ true → IsAt (with_line d l) (place_after place l) × (rest_of (with_line d l) ≡ rest_of d ++ l ∷ [])
  added d place (SizeOf f c k) here is = (let e = (may-parts version n place (SizeOf f c k) is).next in absurd cc)
  added d place (FreeOf ends) here is = (let e = (may-parts version n place (FreeOf ends) is).next in absurd cc)
  added d place (VmOf v p ends) here is =
      let m = may-parts version n place (VmOf v p ends) is in
      let order = m.order in
      let new : SlotDump = record { phase = p; list = ends; leaves = []; entries = [] } in
      let at : v ≡ length d.slots = eqb-true v place.vm m.next ∙ sym here.slots in
      let no_leaves = here.before_leaves (omega (arith, order)) in
      let no_entries = here.before_entries (omega (arith, order)) in
      let leaves = bare-push (λ (s : SlotDump). s.leaves) d.slots new refl refl no_leaves in
      let entries = bare-push (λ (s : SlotDump). s.entries) d.slots new refl refl no_entries in
      let count = ap length (leaves place.leaf.0 (omega arith)) ∙ sym (ap length (no_leaves place.leaf.0 (omega arith))) ∙ here.count in (
        record { slots = (let a = length-append d.slots (new ∷ []) in omega (arith, a, at)); leaves = λ j l. leaves j (omega arith); count = count; entries = λ j l. entries j (omega arith); frames = here.frames; before_leaves = λ s. leaves; before_entries = λ s. entries; before_frames = here.before_frames },
        bare-tables (d.slots ++ new ∷ []) (made FrameOf 0 d.frames) leaves entries ∙ rw (bare-tables d.slots (made FrameOf 0 d.frames) no_leaves no_entries, made-push vm_of 0 d.slots new, here.before_frames (omega (arith, order)), let e : 0 + length d.slots ≡ v = omega (arith, at) in e) (simp append-nil),
      )
  added d place (LeafOf w i root) here is =
      let m = may-parts version n place (LeafOf w i root) is in
      let order = m.order in
      let low = has-slot d place (LeafOf w i root) here is in
      let slot = get_or d.slots w empty_dump in
      let new : SlotDump = record slot { leaves = slot.leaves ++ root ∷ [] } in
      let c : (length slot.leaves ≡ i) × (place.leaf.0 ≤ w) = elim (or_cases ((w == place.leaf.0) && (i == place.leaf.1)) (nat_lt place.leaf.0 w && (i == 0)) (and_parts (place.vm == slots_of version) _ m.next).1) [
        | inl y ↦ let z = and_parts (w == place.leaf.0) (i == place.leaf.1) y in let same = eqb-true w place.leaf.0 z.0 in (ap (λ j. length (get_or d.slots j empty_dump).leaves) same ∙ here.count ∙ sym (eqb-true i place.leaf.1 z.1), omega (arith, same))
        | inr y ↦ let z = and_parts (nat_lt place.leaf.0 w) (i == 0) y in let past = ltb-true place.leaf.0 w z.0 in (ap length (here.leaves w (omega (arith, past))) ∙ sym (eqb-true i 0 z.1), omega (arith, past))
      ] in
      let bare : NoLeaves (w + 1) d.slots = λ j l. here.leaves j (let a = c.1 in omega (arith, a, l)) in
      let leaves : NoLeaves (w + 1) (set d.slots w new) = λ j l. ap (λ (s : SlotDump). s.leaves) (get_or-set_other d.slots w j new empty_dump (λ e. omega (arith, e, l))) ∙ bare j l in
      let count = ap (λ (s : SlotDump). length s.leaves) (get_or-set_same d.slots w new empty_dump low) ∙ length-append slot.leaves (root ∷ []) ∙ ap (λ j. j + 1) c.0 in
      let entries = λ (j : ℕ). kept (λ (s : SlotDump). s.entries) d.slots w new j low refl in
      let no_entries = here.before_entries (omega (arith, order)) in
      let no_frames = here.before_frames (omega (arith, order)) in (
        record { slots = length-set d.slots w new ∙ here.slots; leaves = leaves; count = count; entries = λ j l. entries j ∙ here.entries j l; frames = here.frames; before_leaves = λ s. absurd (omega (arith, s)); before_entries = λ s j l. entries j ∙ no_entries j l; before_frames = λ s. no_frames },
        rw (vms-same 0 w d.slots new low refl, gather-push (λ (s : SlotDump). s.leaves) LeafOf 0 w d.slots new root low bare refl, gather-same (λ (s : SlotDump). s.entries) (λ v i e. EntryOf v e) 0 w d.slots new low refl, gather-bare (λ (s : SlotDump). s.entries) (λ v i e. EntryOf v e) 0 d.slots no_entries, no_frames, c.0, let e : 0 + w ≡ w = omega arith in e) (simp (append_assoc, append-nil)),
      )
  added d place (EntryOf w x) here is =
      let m = may-parts version n place (EntryOf w x) is in
      let order = m.order in
      let low = has-slot d place (EntryOf w x) here is in
      let slot = get_or d.slots w empty_dump in
      let new : SlotDump = record slot { entries = slot.entries ++ x ∷ [] } in
      let past : place.entry.0 ≤ w = elim (or_cases (nat_lt place.entry.0 w) ((w == place.entry.0) && nat_le place.entry.1 x.0) (and_parts (place.vm == slots_of version) _ m.next).1) [ inl y ↦ let a = ltb-true place.entry.0 w y in omega (arith, a) | inr y ↦ let a = eqb-true w place.entry.0 (and_parts (w == place.entry.0) _ y).0 in omega (arith, a) ] in
      let bare : NoEntries (w + 1) d.slots = λ j l. here.entries j (omega (arith, past, l)) in
      let entries : NoEntries (w + 1) (set d.slots w new) = λ j l. ap (λ (s : SlotDump). s.entries) (get_or-set_other d.slots w j new empty_dump (λ e. omega (arith, e, l))) ∙ bare j l in
      let leaves = λ (j : ℕ). kept (λ (s : SlotDump). s.leaves) d.slots w new j low refl in
      let no_frames = here.before_frames (omega (arith, order)) in (
        record { slots = length-set d.slots w new ∙ here.slots; leaves = λ j l. leaves j ∙ here.leaves j l; count = ap length (leaves place.leaf.0) ∙ here.count; entries = entries; frames = here.frames; before_leaves = λ s. absurd (omega (arith, s)); before_entries = λ s. absurd (omega (arith, s)); before_frames = λ s. no_frames },
        rw (vms-same 0 w d.slots new low refl, gather-push (λ (s : SlotDump). s.entries) (λ v i e. EntryOf v e) 0 w d.slots new x low bare refl, gather-same (λ (s : SlotDump). s.leaves) LeafOf 0 w d.slots new low refl, no_frames, let e : 0 + w ≡ w = omega arith in e) (simp (append_assoc, append-nil)),
      )
  added d place (FrameOf f line) here is =
      let at : f ≡ length d.frames = eqb-true f place.frame (and_parts (place.vm == slots_of version) _ (may-parts version n place (FrameOf f line) is).next).1 ∙ sym here.frames in (
        record { slots = here.slots; leaves = here.leaves; count = here.count; entries = here.entries; frames = (let a = length-append d.frames (line ∷ []) in omega (arith, a, at)); before_leaves = λ s. absurd (omega (arith, s)); before_entries = λ s. absurd (omega (arith, s)); before_frames = λ s. absurd (omega (arith, s)) },
        rw (made-push FrameOf 0 d.frames line, let e : 0 + length d.frames ≡ f = omega (arith, at) in e) (simp append_assoc),
      )

  pub begun-more : (d : Dumped) (place : Place) (l : DumpLine) → IsBegun version n d place → may version n place l ≡ true → IsBegun version n (with_line d l) (place_after place l) × (begun_lines n (with_line d l) ≡ begun_lines n d ++ l ∷ [])
  begun-more d place l b is =
      let a = added d place l b.here is in
      let chain : chain version n start (rest_of (with_line d l)) ≡ true = rw a.1 (chain-both version n start (rest_of d) (l ∷ []) b.chain (and_from _ _ (rw b.reached is) refl)) in
      let end_place = ap (end start) a.1 ∙ end-both start (rest_of d) (l ∷ []) ∙ ap (λ p. place_after p l) b.reached in
      (record { same = b.same; sizes = b.sizes; free = b.free; chain = chain; reached = end_place; right = place-more place l b.right (may-parts version n place l is); here = a.0 }, ap (λ (ls : List DumpLine). SizeOf n d.core d.leaves ∷ FreeOf d.free ∷ ls) a.1)

-- one more line of the text
pub reads-more : (n : ℕ) (d0 d e : Dumped) (l : DumpLine) (text rest more : List ℕ) → begun_lines n e ≡ begun_lines n d ++ l ∷ [] → ReadsOn n d0 text d rest → rest ≡ spell l ++ more → ReadsOn n d0 text e more
reads-more n d0 d e l text rest more grown reads cut = reads ∙ ap (λ (s : List ℕ). flat_map spell (begun_lines n d) ++ s) cut ∙ again (flat_map spell (begun_lines n d)) ∙ sym (ap (λ (ls : List DumpLine). flat_map spell ls ++ more) grown ∙ ap (λ (s : List ℕ). s ++ more) (flat_map-append spell (begun_lines n d) (l ∷ [])))
  where
    again : (s : List ℕ) → s ++ (spell l ++ more) ≡ (s ++ (spell l ++ [])) ++ more
    again s = simp (append_assoc, append-nil)
