-- A text has the lines of at most one dump, and the text of a dump is never refused.
use Rattle.std.proofs.Common.{ℕ, zero, suc, ◌≡◌, ◌<◌, ◌≤◌, ◌+◌, cond, List, [], ◌∷◌, ◌++◌, length, get_or, Option, Some, None, refl, sym, ap, ◌∙◌, arith, eq-eqb, true, subst, append_assoc}
use Rattle.std.specs.Prelude.{◌==◌, Result, Ok, Err, MatchResult}
use Rattle.std.specs.List.{filter_map, flat_map, list_all}
use Rattle.std.proofs.lemmas.Bool.{ne_eqb, and_parts}
use Rattle.std.proofs.lemmas.List.{append-nil, ext_get_or, append_cancel_left}
use Rattle.std.proofs.lemmas.List.Elements.{filter_map-append}
use Rattle.kc_types.specs.declared.link.Ends.{Ends}
use Rattle.kc_types.specs.declared.slot.Phase.{Phase}
use Rattle.kc_types.specs.declared.slot.Phase.TheVariants.{Empty}
use Rattle.kc_types.specs.Limits.{byte_limit, frame_limit}
use Rattle.kc_types.specs.Configuration.{slots_of, has_dump}
use Rattle.kc_types.specs.declared.version.Version.{Version}
use Rattle.kc_types.specs.declared.version.Version.TheVariants.{One, Two, Three}
use Rattle.kc_dump.specs.declared.line.FrameLine.{FrameLine}
use Rattle.kc_dump.specs.Dump.{Dumped, SlotDump, empty_dump, no_ends, slot_dump_at}
use Rattle.kc_dump_text.specs.declared.dump_line.DumpLine.{DumpLine}
use Rattle.kc_dump_text.specs.declared.dump_line.DumpLine.TheVariants.{VmOf, LeafOf, EntryOf, FrameOf}
use Rattle.kc_dump_text.specs.DumpText.{made, gather, vm_of, leaves_of, entries_of, rest_of, dump_lines, dump_header, spell}
use Rattle.kc_dump_text.specs.declared.fault.DumpFault.{DumpFault}
use Rattle.kc_dump_text.specs.declared.fault.DumpFault.TheVariants.{NoHeader, BadLine, Frame, Memory}
use Rattle.kc_dump_text.specs.Grammar.{IsDumpText}
use Rattle.kc_dump_text.specs.Places.{in_range}
use Rattle.kc_dump_text.specs.Refused.{Starts, DumpStopsFor, IsRefusedDump}
use Rattle.kc_dump_text.specs.Begun.{first_line, IsTextOf, IsStuck}
use Rattle.kc_dump_text.proofs.ReadLines.{first-spelled, line-bytes}
use Rattle.kc_dump_text.proofs.Chains.{all-front, few-of, dump-range}

-- what a line says about this slot, and about a frame
abbrev front : ℕ → DumpLine → Option (Phase × Ends)
front v (VmOf w phase ends) = cond (w == v) (Some (phase, ends)) None
front v _ = None

abbrev root : ℕ → DumpLine → Option ℕ
root v (LeafOf w i r) = cond (w == v) (Some r) None
root v _ = None

abbrev entry : ℕ → DumpLine → Option (ℕ × ℕ)
entry v (EntryOf w e) = cond (w == v) (Some e) None
entry v _ = None

abbrev pub frame : DumpLine → Option FrameLine
frame (FrameOf f line) = Some line
frame _ = None

made-all : {X : Type 0} (h : DumpLine → Option X) (make : ℕ → X → DumpLine) (i : ℕ) (xs : List X) → ((i : ℕ) (x : X) → h (make i x) ≡ Some x) → filter_map h (made make i xs) ≡ xs
made-all h make i [] all = refl
made-all h make i (x ∷ xs) all = rw (all i x, made-all h make (i + 1) xs all) refl

made-none : {X Y : Type 0} (h : DumpLine → Option Y) (make : ℕ → X → DumpLine) (i : ℕ) (xs : List X) → ((i : ℕ) (x : X) → h (make i x) ≡ None) → filter_map h (made make i xs) ≡ []
made-none h make i [] none = refl
made-none h make i (x ∷ xs) none = rw (none i x) (made-none h make (i + 1) xs none)

gather-none : {X Y : Type 0} (h : DumpLine → Option Y) (pick : SlotDump → List X) (make : ℕ → ℕ → X → DumpLine) (v : ℕ) (slots : List SlotDump) → ((w i : ℕ) (x : X) → v ≤ w → h (make w i x) ≡ None) → filter_map h (gather pick make v slots) ≡ []
gather-none h pick make v [] none = refl
gather-none h pick make v (slot ∷ slots) none =
    filter_map-append h (made (make v) 0 (pick slot)) (gather pick make (v + 1) slots) ∙ rw (made-none h (make v) 0 (pick slot) (λ i x. none v i x (omega arith)), gather-none h pick make (v + 1) slots (λ w i x low. none w i x (omega (arith, low)))) refl

-- among the lines of all slots, those of one
gather-one : {X : Type 0} (h : DumpLine → Option X) (pick : SlotDump → List X) (make : ℕ → ℕ → X → DumpLine) (v k : ℕ) (slots : List SlotDump) → ((w i : ℕ) (x : X) → h (make w i x) ≡ cond (w == v + k) (Some x) None) → k < length slots
    → filter_map h (gather pick make v slots) ≡ pick (get_or slots k empty_dump)
gather-one h pick make v k [] one low = absurd (omega (arith, low))
gather-one h pick make v zero (slot ∷ slots) one low =
    filter_map-append h (made (make v) 0 (pick slot)) (gather pick make (v + 1) slots)
    ∙ rw (made-all h (make v) 0 (pick slot) (λ i x. one v i x ∙ rw (eq-eqb v (v + 0) (omega arith)) refl), gather-none h pick make (v + 1) slots (λ w i x l. one w i x ∙ rw (ne_eqb w (v + 0) (λ e. omega (arith, e, l))) refl)) (append-nil (pick slot))
gather-one h pick make v (suc k) (slot ∷ slots) one low =
    filter_map-append h (made (make v) 0 (pick slot)) (gather pick make (v + 1) slots)
    ∙ rw (made-none h (make v) 0 (pick slot) (λ i x. one v i x ∙ rw (ne_eqb v (v + suc k) (λ e. omega (arith, e))) refl)) (gather-one h pick make (v + 1) k slots (λ w i x. one w i x ∙ ap (λ n. cond (w == n) (Some x) None) (let e : v + suc k ≡ v + 1 + k = omega arith in e)) (omega (arith, low)))

-- the lines of slots, as those of something that each slot has once
fronts : (v : ℕ) (slots : List SlotDump) → made vm_of v slots ≡ gather {X = Phase × Ends} (λ slot. (slot.phase, slot.list) ∷ []) (λ w i f. VmOf w f.0 f.1) v slots
fronts v [] = refl
fronts v (slot ∷ slots) = ap (λ (ls : List DumpLine). vm_of v slot ∷ ls) (fronts (v + 1) slots)

parts : {Y : Type 0} (h : DumpLine → Option Y) (d : Dumped) → filter_map h (rest_of d) ≡ filter_map h (made vm_of 0 d.slots) ++ (filter_map h (leaves_of 0 d.slots) ++ (filter_map h (entries_of 0 d.slots) ++ filter_map h (made FrameOf 0 d.frames)))
parts h d = rw (filter_map-append h (made vm_of 0 d.slots) (leaves_of 0 d.slots ++ (entries_of 0 d.slots ++ made FrameOf 0 d.frames)), filter_map-append h (leaves_of 0 d.slots) (entries_of 0 d.slots ++ made FrameOf 0 d.frames), filter_map-append h (entries_of 0 d.slots) (made FrameOf 0 d.frames)) refl

module _ (d : Dumped) where
  roots-picked : (v : ℕ) → v < length d.slots → filter_map (root v) (rest_of d) ≡ (slot_dump_at d v).leaves
  roots-picked v low = parts (root v) d
      ∙ rw (made-none (root v) vm_of 0 d.slots (λ i x. refl), gather-one (root v) (λ (s : SlotDump). s.leaves) LeafOf 0 v d.slots (λ w i x. ap (λ n. cond (w == n) (Some x) None) (let e : v ≡ 0 + v = omega arith in e)) low, gather-none (root v) (λ (s : SlotDump). s.entries) (λ v i e. EntryOf v e) 0 d.slots (λ w i x l. refl), made-none (root v) FrameOf 0 d.frames (λ i x. refl))
      (append-nil (slot_dump_at d v).leaves)

  entries-picked : (v : ℕ) → v < length d.slots → filter_map (entry v) (rest_of d) ≡ (slot_dump_at d v).entries
  entries-picked v low = parts (entry v) d
      ∙ rw (made-none (entry v) vm_of 0 d.slots (λ i x. refl), gather-none (entry v) (λ (s : SlotDump). s.leaves) LeafOf 0 d.slots (λ w i x l. refl), gather-one (entry v) (λ (s : SlotDump). s.entries) (λ v i e. EntryOf v e) 0 v d.slots (λ w i x. ap (λ n. cond (w == n) (Some x) None) (let e : v ≡ 0 + v = omega arith in e)) low, made-none (entry v) FrameOf 0 d.frames (λ i x. refl))
      (append-nil (slot_dump_at d v).entries)

  front-picked : (v : ℕ) → v < length d.slots → filter_map (front v) (rest_of d) ≡ ((slot_dump_at d v).phase, (slot_dump_at d v).list) ∷ []
  front-picked v low = parts (front v) d
      ∙ rw (fronts 0 d.slots, gather-one (front v) (λ (s : SlotDump). (s.phase, s.list) ∷ []) (λ w i f. VmOf w f.0 f.1) 0 v d.slots (λ w i x. ap (λ n. cond (w == n) (Some x) None) (let e : v ≡ 0 + v = omega arith in e)) low, gather-none (front v) (λ (s : SlotDump). s.leaves) LeafOf 0 d.slots (λ w i x l. refl), gather-none (front v) (λ (s : SlotDump). s.entries) (λ v i e. EntryOf v e) 0 d.slots (λ w i x l. refl), made-none (front v) FrameOf 0 d.frames (λ i x. refl))
      refl

  pub frames-picked : filter_map frame (rest_of d) ≡ d.frames
  frames-picked = parts frame d
      ∙ rw (made-none frame vm_of 0 d.slots (λ i x. refl), gather-none frame (λ (s : SlotDump). s.leaves) LeafOf 0 d.slots (λ w i x l. refl), gather-none frame (λ (s : SlotDump). s.entries) (λ v i e. EntryOf v e) 0 d.slots (λ w i x l. refl), made-all frame FrameOf 0 d.frames (λ i x. refl)) refl

pub lines-one : (d e : Dumped) → d.version ≡ e.version → length d.slots ≡ length e.slots → dump_lines d ≡ dump_lines e → d ≡ e
lines-one d e version long lines =
    let core : d.core ≡ e.core = cc in
    let leaves : d.leaves ≡ e.leaves = cc in
    let free : d.free ≡ e.free = cc in
    let rest : rest_of d ≡ rest_of e = cc in
    let frames : d.frames ≡ e.frames = sym (frames-picked d) ∙ ap (filter_map frame) rest ∙ frames-picked e in
    let slots : d.slots ≡ e.slots = ext_get_or empty_dump d.slots e.slots long (λ v low.
    let low_e : v < length e.slots = omega (arith, low, long) in
    let fronts : ((slot_dump_at d v).phase, (slot_dump_at d v).list) ≡ ((slot_dump_at e v).phase, (slot_dump_at e v).list) = ap (λ (l : List (Phase × Ends)). get_or l 0 (Empty, no_ends)) (sym (front-picked d v low) ∙ ap (filter_map (front v)) rest ∙ front-picked e v low_e) in
    let roots : (slot_dump_at d v).leaves ≡ (slot_dump_at e v).leaves = sym (roots-picked d v low) ∙ ap (filter_map (root v)) rest ∙ roots-picked e v low_e in
    let entries : (slot_dump_at d v).entries ≡ (slot_dump_at e v).entries = sym (entries-picked d v low) ∙ ap (filter_map (entry v)) rest ∙ entries-picked e v low_e in
    λ i. record { phase = (fronts i).0; list = (fronts i).1; leaves = roots i; entries = entries i }) in
    λ i. record { version = version i; core = core i; leaves = leaves i; free = free i; slots = slots i; frames = frames i }

-- if a text begins with the text of these lines, the lines are its first
follow : (v w : Version) (m n : ℕ) → m ≤ frame_limit → n ≤ frame_limit → (xs ys : List DumpLine) (r : List ℕ) → list_all (in_range v m) xs ≡ true → list_all (in_range w n) ys ≡ true → flat_map spell xs ++ r ≡ flat_map spell ys → (zs : List DumpLine) × (ys ≡ xs ++ zs) × (r ≡ flat_map spell zs)
follow v w m n few less [] ys r a b e = (ys, refl, e)
follow v w m n few less (x ∷ xs) [] r a b e = (let low = line-bytes x (flat_map spell xs ++ r) [] (sym e ∙ append_assoc (spell x) (flat_map spell xs) r) in absurd (omega (arith, low)))
follow v w m n few less (x ∷ xs) (y ∷ ys) r a b e =
    let p = and_parts (in_range v m x) _ a in
    let q = and_parts (in_range w n y) _ b in
    let other : spell x ++ (flat_map spell xs ++ r) ≡ spell y ++ flat_map spell ys = sym (append_assoc (spell x) (flat_map spell xs) r) ∙ e in
    let both : Some x ≡ Some y = sym (first-spelled v m x (flat_map spell xs ++ r) few p.0) ∙ ap first_line other ∙ first-spelled w n y (flat_map spell ys) less q.0 in
    let same : x ≡ y = cc in
    let rest = follow v w m n few less xs ys r p.1 q.1 (append_cancel_left (spell x) (flat_map spell xs ++ r) (flat_map spell ys) (other ∙ ap (λ (l : DumpLine). spell l ++ flat_map spell ys) (sym same))) in
    (rest.0, ap (λ (l : DumpLine). l ∷ ys) (sym same) ∙ ap (λ (ls : List DumpLine). x ∷ ls) rest.1, rest.2)

-- a text has at most one header
header-same : (v w : Version) (a b : List ℕ) → dump_header v ++ a ≡ dump_header w ++ b → (v ≡ w) × (a ≡ b)
header-same One One a b e = (refl, append_cancel_left (dump_header One) a b e)
header-same Two Two a b e = (refl, append_cancel_left (dump_header Two) a b e)
header-same Three Three a b e = (refl, append_cancel_left (dump_header Three) a b e)
header-same One Two a b e = (let digits : ◌≡◌ {A = ℕ} 49 50 = ap (λ (l : List ℕ). get_or l 11 0) e in absurd (omega (arith, digits)))
header-same One Three a b e = (let digits : ◌≡◌ {A = ℕ} 49 51 = ap (λ (l : List ℕ). get_or l 11 0) e in absurd (omega (arith, digits)))
header-same Two One a b e = (let digits : ◌≡◌ {A = ℕ} 50 49 = ap (λ (l : List ℕ). get_or l 11 0) e in absurd (omega (arith, digits)))
header-same Two Three a b e = (let digits : ◌≡◌ {A = ℕ} 50 51 = ap (λ (l : List ℕ). get_or l 11 0) e in absurd (omega (arith, digits)))
header-same Three One a b e = (let digits : ◌≡◌ {A = ℕ} 51 49 = ap (λ (l : List ℕ). get_or l 11 0) e in absurd (omega (arith, digits)))
header-same Three Two a b e = (let digits : ◌≡◌ {A = ℕ} 51 50 = ap (λ (l : List ℕ). get_or l 11 0) e in absurd (omega (arith, digits)))

starts : (r : List ℕ) (zs : List DumpLine) → r ≡ flat_map spell zs → Starts r zs
starts r [] e = e
starts r (z ∷ zs) e = (flat_map spell zs, e)

not-stopped : (version : Version) (text rest : List ℕ) (d : Dumped) (fault : DumpFault) → IsDumpText text d → text ≡ dump_header version ++ rest → DumpStopsFor version rest fault → ⊥
not-stopped version text rest d fault is e s =
    let h = header-same d.version version (flat_map spell (dump_lines d)) rest (sym is.whole ∙ e) in
    let b = s.stops.begun in
    let f = follow b.0.version d.version _ _ (few-of b.0 b.2.range) (few-of d is.range) s.lines (dump_lines d) s.rest (all-front _ s.lines b.1 (subst (λ ls. list_all (in_range b.0.version (length b.0.frames)) ls ≡ true) b.2.spelled (dump-range b.0 b.2.range))) (dump-range d is.range) (sym s.stops.whole ∙ sym h.1) in
    s.stops.stuck d f.0 (record { range = is.range; same = h.0; spelled = f.1 }) (starts s.rest f.0 f.2)

-- the text of a dump is never refused
pub not-refused : (text : List ℕ) (d : Dumped) (fault : DumpFault) → length text ≤ byte_limit → IsDumpText text d → IsRefusedDump text fault → fault ≡ Memory
not-refused text d NoHeader short is r = absurd (r d.version (flat_map spell (dump_lines d)) is.has is.whole)
not-refused text d Memory short is r = refl
not-refused text d (BadLine n) short is r = absurd (not-stopped r.0 text r.1 d (BadLine n) is r.2 r.3)
not-refused text d (Frame f) short is r = absurd (not-stopped r.0 text r.1 d (Frame f) is r.2 r.3)

-- a text is that of at most one dump
pub one-dump : (text : List ℕ) (d e : Dumped) → length text ≤ byte_limit → IsDumpText text d → IsDumpText text e → d ≡ e
one-dump text d e short is other =
    let h = header-same d.version e.version (flat_map spell (dump_lines d)) (flat_map spell (dump_lines e)) (sym is.whole ∙ other.whole) in
    let f = follow d.version e.version _ _ (few-of d is.range) (few-of e other.range) (dump_lines d) (dump_lines e) [] (dump-range d is.range) (dump-range e other.range) (append-nil (flat_map spell (dump_lines d)) ∙ h.1) in
    lines-one d e h.0 (is.range.slots ∙ ap slots_of h.0 ∙ sym other.range.slots) (sym (append-nil (dump_lines d)) ∙ ap (λ (ls : List DumpLine). dump_lines d ++ ls) (sym (nothing-more f.0 f.2)) ∙ sym f.1)
  where
    nothing-more : (zs : List DumpLine) → [] ≡ flat_map spell zs → zs ≡ []
    nothing-more [] e = refl
    nothing-more (l ∷ zs) e = (let low = line-bytes l (flat_map spell zs) [] e in absurd (omega (arith, low)))

-- ---- after the header

pub whole-text : (version : Version) (text rest : List ℕ) (d : Dumped) → has_dump version ≡ true → text ≡ dump_header version ++ rest → IsTextOf version rest d → IsDumpText text d
whole-text version text rest d has e w = record { whole = e ∙ ap (λ (l : List ℕ). dump_header version ++ l) w.whole ∙ ap (λ v. dump_header v ++ flat_map spell (dump_lines d)) (sym w.same); range = w.range; has = subst (λ v. has_dump v ≡ true) (sym w.same) has }

refused : (version : Version) (text rest : List ℕ) (fault : DumpFault) → text ≡ dump_header version ++ rest → IsStuck version rest fault → IsRefusedDump text fault
refused version text rest NoHeader e h = absurd h
refused version text rest Memory e h = tt
refused version text rest (BadLine n) e h = (version, rest, e, h)
refused version text rest (Frame f) e h = (version, rest, e, h)

-- what is read after the header is what is read of the whole
pub read-found : (version : Version) (text rest : List ℕ) (result : Result Dumped DumpFault) → has_dump version ≡ true → text ≡ dump_header version ++ rest → MatchResult result (λ d. IsTextOf version rest d) (λ fault. IsStuck version rest fault) → MatchResult result (λ d. IsDumpText text d) (λ fault. IsRefusedDump text fault)
read-found version text rest (Ok d) has e h = whole-text version text rest d has e h
read-found version text rest (Err fault) has e h = refused version text rest fault e h

pub read-only : (text : List ℕ) (result : Result Dumped DumpFault) (d : Dumped) → length text ≤ byte_limit → MatchResult result (λ d. IsDumpText text d) (λ fault. IsRefusedDump text fault) → IsDumpText text d → MatchResult result (λ read. read ≡ d) (λ fault. fault ≡ Memory)
read-only text (Ok e) d short h is = one-dump text e d short h is
read-only text (Err fault) d short h is = not-refused text d fault short is h
