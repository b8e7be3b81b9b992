-- The lines of a dump may follow one another, and lines that may are those of a dump in range.
use Rattle.std.proofs.Common.{ℕ, zero, suc, ◌≡◌, ◌<◌, ◌≤◌, ◌+◌, Bool, true, ◌&&◌, ◌||◌, nat_lt, nat_le, List, [], ◌∷◌, ◌++◌, length, get_or, refl, sym, subst, ◌∙◌, append_assoc, arith, inl, inr, eq-eqb}
use Rattle.std.specs.Prelude.{◌==◌, ◌⊎◌}
use Rattle.std.specs.List.{list_all}
use Rattle.std.proofs.lemmas.Bool.{and_parts, and_from, or_cases, or_left, or_right, ltb-true, ltb-false, leb-true, lt-ltb, le-leb, cases_Bool}
use Rattle.std.proofs.lemmas.List.{append-nil, get_or_past}
use Rattle.std.proofs.lemmas.List.Folds.{list_all-append}
use Rattle.kc_types.specs.Limits.{frame_limit, byte_limit}
use Rattle.kc_types.specs.Configuration.{most_frames, slots_of, roots_of, most_leaves}
use Rattle.kc_types.specs.declared.version.Version.{Version}
use Rattle.kc_dump.specs.declared.line.FrameLine.{FrameLine}
use Rattle.kc_dump.specs.Ranges.{are_ends, is_entry, is_frame, IsDump}
use Rattle.kc_dump.specs.Dump.{Dumped, SlotDump, empty_dump, absent_line}
use Rattle.kc_dump_text.specs.declared.place.Place.{Place}
use Rattle.kc_dump_text.specs.declared.dump_line.DumpLine.{DumpLine}
use Rattle.kc_dump_text.specs.declared.dump_line.DumpLine.TheVariants.{SizeOf, LeafOf, EntryOf, FrameOf}
use Rattle.kc_dump_text.specs.DumpText.{made, gather, vm_of, leaves_of, entries_of, rest_of, dump_lines}
use Rattle.kc_dump_text.specs.Places.{is_size, in_range, section, comes, may, place_after, start, chain, end}
use Rattle.kc_types.proofs.Ranges.{few-frames}

pub end-both : (place : Place) (xs ys : List DumpLine) → end place (xs ++ ys) ≡ end (end place xs) ys
end-both place [] ys = refl
end-both place (x ∷ xs) ys = end-both (place_after place x) xs ys

module _ (version : Version) (n : ℕ) where
  -- what is true of a line that may come
  pub record May (place : Place) (l : DumpLine) : Type 0 where
    pub order : place.section ≤ section l
    pub next : comes version place l ≡ true
    pub range : in_range version n l ≡ true

  pub may-parts : (place : Place) (l : DumpLine) → may version n place l ≡ true → May place l
  may-parts place l e =
      let p = and_parts (nat_le place.section (section l) && comes version place l) (in_range version n l) e in
      let q = and_parts (nat_le place.section (section l)) (comes version place l) p.0 in
      record { order = leb-true place.section (section l) q.0; next = q.1; range = p.1 }

  pub may-from : (place : Place) (l : DumpLine) → place.section ≤ section l → comes version place l ≡ true → in_range version n l ≡ true → may version n place l ≡ true
  may-from place l order next range = and_from _ _ (and_from _ _ (le-leb place.section (section l) order) next) range

  pub chain-both : (place : Place) (xs ys : List DumpLine) → chain version n place xs ≡ true → chain version n (end place xs) ys ≡ true → chain version n place (xs ++ ys) ≡ true
  chain-both place [] ys a b = b
  chain-both place (x ∷ xs) ys a b = let p = and_parts (may version n place x) _ a in and_from _ _ p.0 (chain-both (place_after place x) xs ys p.1 b)

  pub chain-after : (place : Place) (xs ys : List DumpLine) → chain version n place (xs ++ ys) ≡ true → chain version n (end place xs) ys ≡ true
  chain-after place [] ys e = e
  chain-after place (x ∷ xs) ys e = chain-after (place_after place x) xs ys (and_parts (may version n place x) _ e).1

  pub chain-range : (place : Place) (lines : List DumpLine) → chain version n place lines ≡ true → list_all (in_range version n) lines ≡ true
  chain-range place [] e = refl
  chain-range place (l ∷ lines) e = let p = and_parts (may version n place l) _ e in and_from _ _ (may-parts place l p.0).range (chain-range (place_after place l) lines p.1)

  -- ---- a dump's lines are a chain

  pub frames-chain : (f : ℕ) (place : Place) (xs : List FrameLine) → place.section ≤ 3 → place.vm ≡ slots_of version → place.frame ≡ f → f + length xs ≤ n → ((k : ℕ) → k < length xs → is_frame version n (get_or xs k absent_line) ≡ true) → chain version n place (made FrameOf f xs) ≡ true
  frames-chain f place [] order all here few each = refl
  frames-chain f place (x ∷ xs) order all here few each =
      and_from _ _ (may-from place (FrameOf f x) order (and_from _ _ (eq-eqb _ _ all) (eq-eqb _ _ (sym here))) (and_from _ _ (lt-ltb f n (omega (arith, few))) (each 0 (omega arith))))
      (frames-chain (f + 1) (place_after place (FrameOf f x)) xs (omega arith) all refl (omega (arith, few)) (λ k low. each (suc k) (omega (arith, low))))

  pub vms-chain : (place : Place) (xs : List SlotDump) (r : List DumpLine) → place.section ≡ 0 → place.vm + length xs ≤ slots_of version → ((k : ℕ) → k < length xs → are_ends n (get_or xs k empty_dump).list ≡ true)
      → chain version n (record place { vm = place.vm + length xs }) r ≡ true → chain version n place (made vm_of place.vm xs ++ r) ≡ true
  vms-chain place [] r order few each next = subst (λ v. chain version n (record place { vm = v }) r ≡ true) (let e : place.vm + 0 ≡ place.vm = omega arith in e) next
  vms-chain place (x ∷ xs) r order few each next =
      and_from _ _ (may-from place (vm_of place.vm x) (omega (arith, order)) (eq-eqb _ _ refl) (and_from _ _ (lt-ltb place.vm (slots_of version) (omega (arith, few))) (each 0 (omega arith))))
      (vms-chain (place_after place (vm_of place.vm x)) xs r order (omega (arith, few)) (λ k low. each (suc k) (omega (arith, low))) (subst (λ v. chain version n (record place { vm = v }) r ≡ true) (let e : place.vm + suc (length xs) ≡ place.vm + 1 + length xs = omega arith in e) next))

  -- the lines of each slot, where those of one slot may come after those of the slots before it
  gather-chain : {X : Type 0} (pick : SlotDump → List X) (make : ℕ → ℕ → X → DumpLine) (Ready : ℕ → Place → Type 0) (Slot : ℕ → SlotDump → Type 0)
      → ((v : ℕ) (slot : SlotDump) (place : Place) (r : List DumpLine) → Slot v slot → Ready v place → ((q : Place) → Ready (v + 1) q → chain version n q r ≡ true) → chain version n place (made (make v) 0 (pick slot) ++ r) ≡ true)
      → (v : ℕ) (slots : List SlotDump) (place : Place) (r : List DumpLine) → ((k : ℕ) → k < length slots → Slot (v + k) (get_or slots k empty_dump)) → Ready v place → ((w : ℕ) (q : Place) → Ready w q → chain version n q r ≡ true) → chain version n place (gather pick make v slots ++ r) ≡ true
  gather-chain pick make Ready Slot one v [] place r each ready next = next v place ready
  gather-chain pick make Ready Slot one v (slot ∷ slots) place r each ready next =
      subst (λ ls. chain version n place ls ≡ true) (sym (append_assoc (made (make v) 0 (pick slot)) (gather pick make (v + 1) slots) r))
      (one v slot place (gather pick make (v + 1) slots ++ r) (subst (λ w. Slot w slot) (let e : v + 0 ≡ v = omega arith in e) (each 0 (omega arith))) ready
      (λ q h. gather-chain pick make Ready Slot one (v + 1) slots q r (λ k low. subst (λ w. Slot w (get_or slots k empty_dump)) (let e : v + suc k ≡ v + 1 + k = omega arith in e) (each (suc k) (omega (arith, low)))) h next))

  -- after all slots, and this many leaves of this one
  abbrev leaf_place : ℕ → ℕ → ℕ → Place
  leaf_place s u k = record start { section = s; vm = slots_of version; leaf = (u, k) }

  leaf-run : (v i s u k : ℕ) (xs : List ℕ) (r : List DumpLine) → s ≤ 1 → v < slots_of version → i + length xs ≤ byte_limit → ((j : ℕ) → j < length xs → get_or xs j 0 < roots_of version) → ((u < v) × (i ≡ 0)) ⊎ ((u ≡ v) × (k ≡ i))
      → ((s u k : ℕ) → s ≤ 1 → u < v + 1 → chain version n (leaf_place s u k) r ≡ true) → chain version n (leaf_place s u k) (made (LeafOf v) i xs ++ r) ≡ true
  leaf-run v i s u k [] r order low few each ahead next = next s u k order (elim ahead [ inl h ↦ omega (arith, h.0) | inr h ↦ omega (arith, h.0) ])
  leaf-run v i s u k (x ∷ xs) r order low few each ahead next =
      let place : ((v == u) && (i == k)) || (nat_lt u v && (i == 0)) ≡ true = elim ahead [ inl h ↦ or_right _ _ (and_from _ _ (lt-ltb u v h.0) (eq-eqb i 0 h.1)) | inr h ↦ or_left _ _ (and_from _ _ (eq-eqb v u (sym h.0)) (eq-eqb i k (sym h.1))) ] in
      and_from _ _ (may-from (leaf_place s u k) (LeafOf v i x) order (and_from _ _ (eq-eqb (slots_of version) (slots_of version) refl) place) (and_from _ _ (and_from _ _ (lt-ltb v (slots_of version) low) (lt-ltb i byte_limit (omega (arith, few)))) (lt-ltb x (roots_of version) (each 0 (omega arith)))))
      (leaf-run v (i + 1) 1 v (i + 1) xs r (omega arith) low (omega (arith, few)) (λ j l. each (suc j) (omega (arith, l))) (inr (refl, refl)) next)

  -- after all slots, with no frame yet
  abbrev Open : Place → Type 0
  Open place = (place.section ≤ 2) × (place.vm ≡ slots_of version) × (place.frame ≡ 0)

  entry-run : (v i : ℕ) (place : Place) (xs : List (ℕ × ℕ)) (r : List DumpLine) → ((j : ℕ) → j < length xs → is_entry version n v (get_or xs j (0, 0)) ≡ true) → ((j : ℕ) → suc j < length xs → (get_or xs j (0, 0)).0 < (get_or xs (suc j) (0, 0)).0)
      → Open place → (place.entry.0 < v) ⊎ ((place.entry.0 ≡ v) × (0 < length xs → place.entry.1 ≤ (get_or xs 0 (0, 0)).0))
      → ((place : Place) → Open place → place.entry.0 < v + 1 → chain version n place r ≡ true) → chain version n place (made (λ i e. EntryOf v e) i xs ++ r) ≡ true
  entry-run v i place [] r each rising ready ahead next = next place ready (elim ahead [ inl h ↦ omega (arith, h) | inr h ↦ omega (arith, h.0) ])
  entry-run v i place (x ∷ xs) r each rising ready ahead next =
      let above : nat_lt place.entry.0 v || ((v == place.entry.0) && nat_le place.entry.1 x.0) ≡ true = elim ahead [ inl h ↦ or_left _ _ (lt-ltb place.entry.0 v h) | inr h ↦ or_right _ _ (and_from _ _ (eq-eqb v place.entry.0 (sym h.0)) (le-leb place.entry.1 x.0 (h.1 (omega arith)))) ] in
      and_from _ _ (may-from place (EntryOf v x) ready.0 (and_from _ _ (eq-eqb place.vm (slots_of version) ready.1) above) (each 0 (omega arith)))
      (entry-run v (i + 1) (place_after place (EntryOf v x)) xs r (λ j l. each (suc j) (omega (arith, l))) (λ j l. rising (suc j) (omega (arith, l))) (omega arith, ready.1, ready.2) (inr (refl, λ some. (let a = rising 0 (omega (arith, some)) in omega (arith, a)))) next)

  -- ---- and lines that are a chain are in range

  -- entries of a slot ascend
  run-rising : (v i : ℕ) (place : Place) (xs : List (ℕ × ℕ)) (r : List DumpLine) → chain version n place (made (λ i e. EntryOf v e) i xs ++ r) ≡ true → (k : ℕ) → suc k < length xs → (get_or xs k (0, 0)).0 < (get_or xs (suc k) (0, 0)).0
  run-rising v i place [] r e k low = absurd (omega (arith, low))
  run-rising v i place (x ∷ []) r e k low = absurd (omega (arith, low))
  run-rising v i place (x ∷ y ∷ xs) r e zero low =
      let p = and_parts (may version n (place_after place (EntryOf v x)) (EntryOf v y)) _ (and_parts (may version n place (EntryOf v x)) _ e).1 in
      elim (or_cases (nat_lt v v) ((v == v) && nat_le (x.0 + 1) y.0) (and_parts (place.vm == slots_of version) _ (may-parts (place_after place (EntryOf v x)) (EntryOf v y) p.0).next).1) [ inl h ↦ let a = ltb-true v v h in absurd (omega (arith, a)) | inr h ↦ let a = leb-true (x.0 + 1) y.0 (and_parts (v == v) (nat_le (x.0 + 1) y.0) h).1 in omega (arith, a) ]
  run-rising v i place (x ∷ y ∷ xs) r e (suc k) low = run-rising v (i + 1) (place_after place (EntryOf v x)) (y ∷ xs) r (and_parts (may version n place (EntryOf v x)) _ e).1 k (omega (arith, low))

  rising : (v : ℕ) (place : Place) (slots : List SlotDump) (r : List DumpLine) → chain version n place (entries_of v slots ++ r) ≡ true → (s k : ℕ) → s < length slots → suc k < length (get_or slots s empty_dump).entries
      → (get_or (get_or slots s empty_dump).entries k (0, 0)).0 < (get_or (get_or slots s empty_dump).entries (suc k) (0, 0)).0
  rising v place [] r e s k low l = absurd (omega (arith, low))
  rising v place (slot ∷ slots) r e zero k low l = run-rising v 0 place slot.entries (entries_of (v + 1) slots ++ r) (rw append_assoc at e) k l
  rising v place (slot ∷ slots) r e (suc s) k low l = rising (v + 1) _ slots r (chain-after place (made (λ i e. EntryOf v e) 0 slot.entries) (entries_of (v + 1) slots ++ r) (rw append_assoc at e)) s k (omega (arith, low)) l

-- the two parts of a list
pub all-front : (p : DumpLine → Bool) (xs ys : List DumpLine) → list_all p (xs ++ ys) ≡ true → list_all p xs ≡ true
all-front p xs ys e = (and_parts (list_all p xs) (list_all p ys) (sym (list_all-append p xs ys) ∙ e)).0

pub all-after : (p : DumpLine → Bool) (xs ys : List DumpLine) → list_all p (xs ++ ys) ≡ true → list_all p ys ≡ true
all-after p xs ys e = (and_parts (list_all p xs) (list_all p ys) (sym (list_all-append p xs ys) ∙ e)).1

made-each : {X : Type 0} (p : DumpLine → Bool) (make : ℕ → X → DumpLine) (i : ℕ) (xs : List X) (d : X) (r : List DumpLine) → list_all p (made make i xs ++ r) ≡ true → (k : ℕ) → k < length xs → p (make (i + k) (get_or xs k d)) ≡ true
made-each p make i [] d r e k low = absurd (omega (arith, low))
made-each p make i (x ∷ xs) d r e zero low = subst (λ n. p (make n x) ≡ true) (let a : i ≡ i + 0 = omega arith in a) (and_parts (p (make i x)) _ e).0
made-each p make i (x ∷ xs) d r e (suc k) low = subst (λ n. p (make n (get_or xs k d)) ≡ true) (let a : i + 1 + k ≡ i + suc k = omega arith in a) (made-each p make (i + 1) xs d r (and_parts (p (make i x)) _ e).1 k (omega (arith, low)))

gather-each : {X : Type 0} (p : DumpLine → Bool) (pick : SlotDump → List X) (make : ℕ → ℕ → X → DumpLine) (v : ℕ) (slots : List SlotDump) (d : X) (r : List DumpLine) → list_all p (gather pick make v slots ++ r) ≡ true → (s i : ℕ) → s < length slots → i < length (pick (get_or slots s empty_dump))
    → p (make (v + s) (0 + i) (get_or (pick (get_or slots s empty_dump)) i d)) ≡ true
gather-each p pick make v [] d r e s i low l = absurd (omega (arith, low))
gather-each p pick make v (slot ∷ slots) d r e zero i low l =
    subst (λ w. p (make w (0 + i) (get_or (pick slot) i d)) ≡ true) (let a : v ≡ v + 0 = omega arith in a) (made-each p (make v) 0 (pick slot) d (gather pick make (v + 1) slots ++ r) (rw append_assoc at e) i l)
gather-each p pick make v (slot ∷ slots) d r e (suc s) i low l =
    subst (λ w. p (make w (0 + i) (get_or (pick (get_or slots s empty_dump)) i d)) ≡ true) (let a : v + 1 + s ≡ v + suc s = omega arith in a)
    (gather-each p pick make (v + 1) slots d r (all-after p (made (make v) 0 (pick slot)) (gather pick make (v + 1) slots ++ r) (rw append_assoc at e)) s i (omega (arith, low)) l)

places-below : (xs : List ℕ) → ((i : ℕ) → i < length xs → 0 + i < byte_limit) → length xs ≤ byte_limit
places-below [] low = omega arith
places-below (x ∷ xs) low = let a = low (length xs) (omega arith) in omega (arith, a)

-- all lines of a dump
pub dump-chain : (d : Dumped) → IsDump d → chain d.version (length d.frames) start (rest_of d) ≡ true
dump-chain d is = vms-chain w n start d.slots (leaves_of 0 d.slots ++ (entries_of 0 d.slots ++ made FrameOf 0 d.frames)) refl (omega (arith, is.slots)) is.lists
    (subst (λ v. chain w n (record start { vm = v }) (leaves_of 0 d.slots ++ (entries_of 0 d.slots ++ made FrameOf 0 d.frames)) ≡ true) (let e : slots_of w ≡ 0 + length d.slots = omega (arith, is.slots) in e)
    (gather-chain w n (λ (s : SlotDump). s.leaves) LeafOf InLeaves LeafSlot leaves 0 d.slots (leaf_place w n 0 0 0) (entries_of 0 d.slots ++ made FrameOf 0 d.frames) (λ k low. (omega (arith, low, is.slots), is.leaves k, (λ i l. is.roots k i low l))) (0, 0, 0, refl, omega arith, inr (refl, refl)) entries))
  where
    w : Version
    w = d.version

    n : ℕ
    n = length d.frames

    InLeaves : ℕ → Place → Type 0
    InLeaves v q = (s : ℕ) × (u : ℕ) × (k : ℕ) × (q ≡ leaf_place w n s u k) × (s ≤ 1) × ((u < v) ⊎ ((u ≡ v) × (k ≡ 0)))

    LeafSlot : ℕ → SlotDump → Type 0
    LeafSlot v slot = (v < slots_of w) × (length slot.leaves ≤ byte_limit) × ((i : ℕ) → i < length slot.leaves → get_or slot.leaves i 0 < roots_of w)

    leaves : (v : ℕ) (slot : SlotDump) (place : Place) (r : List DumpLine) → LeafSlot v slot → InLeaves v place → ((q : Place) → InLeaves (v + 1) q → chain w n q r ≡ true) → chain w n place (made (LeafOf v) 0 slot.leaves ++ r) ≡ true
    leaves v slot place r each h next = rw h.3 (leaf-run w n v 0 h.0 h.1 h.2 slot.leaves r h.4 each.0 (omega (arith, each.1)) each.2 (elim h.5 [ inl a ↦ inl (a, refl) | inr a ↦ inr a ]) (λ s u k o l. next (leaf_place w n s u k) (s, u, k, refl, o, inl l)))

    InEntries : ℕ → Place → Type 0
    InEntries v q = Open w n q × ((q.entry.0 < v) ⊎ ((q.entry.0 ≡ v) × (q.entry.1 ≡ 0)))

    EntrySlot : ℕ → SlotDump → Type 0
    EntrySlot v slot = ((i : ℕ) → i < length slot.entries → is_entry w n v (get_or slot.entries i (0, 0)) ≡ true) × ((i : ℕ) → suc i < length slot.entries → (get_or slot.entries i (0, 0)).0 < (get_or slot.entries (suc i) (0, 0)).0)

    one-slot : (v : ℕ) (slot : SlotDump) (place : Place) (r : List DumpLine) → EntrySlot v slot → InEntries v place → ((q : Place) → InEntries (v + 1) q → chain w n q r ≡ true) → chain w n place (made (λ i e. EntryOf v e) 0 slot.entries ++ r) ≡ true
    one-slot v slot place r each h next = entry-run w n v 0 place slot.entries r each.0 each.1 h.0 (elim h.1 [ inl a ↦ inl a | inr a ↦ inr (a.0, λ some. omega (arith, a.1)) ]) (λ q o l. next q (o, inl l))

    entries : (v : ℕ) (q : Place) → InLeaves v q → chain w n q (entries_of 0 d.slots ++ made FrameOf 0 d.frames) ≡ true
    entries v q h = rw h.3 (gather-chain w n (λ (s : SlotDump). s.entries) (λ v i e. EntryOf v e) InEntries EntrySlot one-slot 0 d.slots (leaf_place w n h.0 h.1 h.2) (made FrameOf 0 d.frames)
        (λ k low. (λ i l. subst (λ v. is_entry w n v (get_or (get_or d.slots k empty_dump).entries i (0, 0)) ≡ true) (let e : k ≡ 0 + k = omega arith in e) (is.entries k i low l), λ i l. is.rising k i low l)) ((omega (arith, h.4), refl, refl), inr (refl, refl))
        (λ v q h. frames-chain w n 0 q d.frames (omega (arith, h.0.0)) h.0.1 h.0.2 (omega arith) is.frames))

pub few-of : (d : Dumped) → IsDump d → length d.frames ≤ frame_limit
few-of d is = few-frames d.version (length d.frames) is.few_frames

pub dump-range : (d : Dumped) → IsDump d → list_all (in_range d.version (length d.frames)) (dump_lines d) ≡ true
dump-range d is = let n = length d.frames in
    and_from _ _ (and_from _ _ (and_from _ _ (and_from _ _ (and_from _ _ (lt-ltb 0 n is.some_frames) (le-leb n (most_frames d.version) is.few_frames)) (le-leb d.core n is.core)) (lt-ltb 0 d.leaves is.some_leaves)) (le-leb d.leaves (most_leaves d.version) is.few_leaves)) (and_from _ _ is.free (chain-range d.version n start (rest_of d) (dump-chain d is)))

abbrev Chained : Dumped → Version → ℕ → Type 0
Chained d version n = is_size version (SizeOf n d.core d.leaves) ≡ true → are_ends n d.free ≡ true → length d.slots ≡ slots_of version → chain version n start (rest_of d) ≡ true → IsDump d

chained : (d : Dumped) → Chained d d.version (length d.frames)
chained d size free slots e =
    let version = d.version in
    let n = length d.frames in
    let core = d.core in
    let leaves = d.leaves in
    let p = and_parts (nat_lt 0 n && nat_le n (most_frames version) && nat_le core n && nat_lt 0 leaves) (nat_le leaves (most_leaves version)) size in
    let q = and_parts (nat_lt 0 n && nat_le n (most_frames version) && nat_le core n) (nat_lt 0 leaves) p.0 in
    let r = and_parts (nat_lt 0 n && nat_le n (most_frames version)) (nat_le core n) q.0 in
    let u = and_parts (nat_lt 0 n) (nat_le n (most_frames version)) r.0 in
    let range = in_range version n in
    let vms = made vm_of 0 d.slots in
    let frames = made FrameOf 0 d.frames in
    let each = chain-range version n start (rest_of d) e in
    let tables = all-after range vms _ each in
    let entries = all-after range (leaves_of 0 d.slots) _ tables in
    let root = λ (v i : ℕ) (low : v < length d.slots) (l : i < length (get_or d.slots v empty_dump).leaves).
    and_parts (nat_lt (0 + v) (slots_of version) && nat_lt (0 + i) byte_limit) (nat_lt (get_or (get_or d.slots v empty_dump).leaves i 0) (roots_of version)) (gather-each range (λ (s : SlotDump). s.leaves) LeafOf 0 d.slots 0 _ tables v i low l) in
    record {
      some_frames = ltb-true 0 n u.0;
      few_frames = leb-true n (most_frames version) u.1;
      core = leb-true core n r.1;
      some_leaves = ltb-true 0 leaves q.1;
      few_leaves = leb-true leaves (most_leaves version) p.1;
      slots = slots;
      free = free;
      lists = λ v low. (and_parts (nat_lt (0 + v) (slots_of version)) _ (made-each range vm_of 0 d.slots empty_dump _ each v low)).1;
      leaves = λ v. elim (cases_Bool (nat_lt v (length d.slots))) [ inl h ↦ places-below (get_or d.slots v empty_dump).leaves (λ i l. ltb-true (0 + i) byte_limit (and_parts (nat_lt (0 + v) (slots_of version)) (nat_lt (0 + i) byte_limit) (root v i (ltb-true v (length d.slots) h) l).0).1) | inr h ↦ rw (get_or_past d.slots v empty_dump (ltb-false v (length d.slots) h)) (omega arith) ];
      roots = λ v i low l. ltb-true _ (roots_of version) (root v i low l).1;
      entries = λ v i low l. subst (λ w. is_entry version n w (get_or (get_or d.slots v empty_dump).entries i (0, 0)) ≡ true) (let a : 0 + v ≡ v = omega arith in a) (gather-each range (λ (s : SlotDump). s.entries) (λ v i e. EntryOf v e) 0 d.slots (0, 0) frames entries v i low l);
      rising = rising version n 0 _ d.slots frames (chain-after version n _ (leaves_of 0 d.slots) _ (chain-after version n start vms _ e));
      frames = λ f low. (and_parts (nat_lt (0 + f) n) _ (made-each range FrameOf 0 d.frames absent_line [] (rw append-nil (all-after range (entries_of 0 d.slots) frames entries)) f low)).1;
    }

pub is-dump : (version : Version) (n : ℕ) (d : Dumped) → d.version ≡ version → length d.frames ≡ n → Chained d version n
is-dump version n d same frames = subst (λ w. Chained d w n) same (subst (λ m. Chained d d.version m) frames (chained d))
