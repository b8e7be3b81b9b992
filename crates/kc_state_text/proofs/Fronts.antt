-- The lines before the dump, read one kind after another.
use Rattle.std.proofs.Common.{ℕ, ◌≡◌, ◌≤◌, ◌+◌, inl, inr, List, [], ◌∷◌, ◌++◌, length, refl, sym, ap, subst, ◌∙◌, append_assoc, arith, length-append}
use Rattle.std.specs.Prelude.{codes}
use Rattle.std.specs.List.{flat_map}
use Rattle.kc_model.specs.Lawful.{IsPage}
use Rattle.kc_dump.specs.Dump.{Dumped}
use Rattle.kc_dump_text.specs.declared.dump_line.DumpLine.{DumpLine}
use Rattle.kc_dump_text.specs.declared.fault.DumpFault.{DumpFault}
use Rattle.kc_dump_text.specs.declared.fault.DumpFault.TheVariants as dump
use Rattle.kc_dump_text.specs.DumpText.{spell, dump_header, dump_text}
use Rattle.kc_dump_text.specs.Grammar.{IsDumpText}
use Rattle.kc_dump_text.specs.Refused.{IsRefusedDump}
use Rattle.kc_dump_text.proofs.ReadLines.{bare, spell-bare}
use Rattle.kc_model.specs.Volumes.{IsDigest}
use Rattle.kc_snapshot.specs.Told.{Told, SlotRest}
use Rattle.kc_state_text.specs.declared.sizes.Sizes as numbers
use Rattle.kc_state_text.specs.declared.fault.StateFault.{StateFault}
use Rattle.kc_state_text.specs.declared.fault.StateFault.TheVariants.{NoHeader, BadLine, Missing, Sizes, Found, Slot, Frame, Memory}
use Rattle.kc_state_text.specs.StateText.{Front, state_header, sizes_words, sizes_line, approved_words, approved_line, slot_words, slot_line, page_words, page_line, front_text, front_of}
use Rattle.kc_state_text.specs.Refused.{AreSizes, IsSlotLine, IsFront, IsWholeFront, BeginsWith, StopsBefore, IsDumpFault, IsTextOf, IsRefusedState, line_count}
use Rattle.kc_state_text.specs.Reading.{BeginsAs, AreRead, Lacks, StopsAmong, IsFrontFault}
use Rattle.kc_state_text.specs.Faults.{dump_fault}
use Rattle.kc_state_text.proofs.Lines.{line-long}
use Rattle.kc_state_text.proofs.Followed.{none-read, many-lines, lines-fit}

regrouped : (h s a b c rest : List ℕ) → h ++ (s ++ (a ++ (b ++ (c ++ rest)))) ≡ (h ++ (s ++ (a ++ (b ++ c)))) ++ rest
regrouped h s a b c rest = simp append_assoc

abbrev pub said : numbers.Sizes → List (List ℕ) → List SlotRest → List (List ℕ) → Front
said sizes digests slots pages = record { sizes = sizes; approved = digests; slots = slots; pages = pages }

module _ (text r0 r1 : List ℕ) (sizes : numbers.Sizes) (header : text ≡ state_header ++ r0) (size : BeginsAs AreSizes sizes_line r0 sizes r1) where
  pub begun : (a b c : ℕ) (r2 r3 r4 : List ℕ) (digests : List (List ℕ)) (slots : List SlotRest) (pages : List (List ℕ)) → AreRead IsDigest approved_line a r1 digests r2 → AreRead IsSlotLine slot_line b r2 slots r3
      → AreRead IsPage page_line c r3 pages r4 → BeginsWith text (said sizes digests slots pages) r4
  begun a b c r2 r3 r4 digests slots pages x y z = record {
    whole = header
        ∙ ap (λ l. state_header ++ l) (size.whole ∙ ap (λ l. sizes_line sizes ++ l) (x.whole ∙ ap (λ l. flat_map approved_line digests ++ l) (y.whole ∙ ap (λ l. flat_map slot_line slots ++ l) z.whole)))
        ∙ regrouped state_header (sizes_line sizes) (flat_map approved_line digests) (flat_map slot_line slots) (flat_map page_line pages) r4;
    front = record { sizes = size.is; approved = x.each; slots = y.each; pages = z.each };
  }

  after-sizes : length r1 ≤ length text
  after-sizes =
      let a = ap length header in
      let b = length-append state_header r0 in
      let c = ap length size.whole in
      let d = length-append (sizes_line sizes) r1 in
      omega (arith, a, b, c, d)

  approved-lack : (n : ℕ) → Lacks IsDigest approved_line 3 sizes.approved r1 n → StopsBefore text n
  approved-lack n l = inr (
    said sizes l.xs [] [],
    l.rest,
    begun (length l.xs) 0 0 l.rest l.rest l.rest l.xs [] [] l.read (none-read IsSlotLine slot_line l.rest) (none-read IsPage page_line l.rest),
    inl (l.few, refl, refl, l.none),
    (let m = l.number in omega (arith, m)),
  )

  pub approved-stop : (fault : StateFault) → StopsAmong IsDigest approved_line 3 sizes.approved r1 fault → IsFrontFault text fault
  approved-stop NoHeader w = w
  approved-stop (BadLine n) w = approved-lack n w
  approved-stop (Missing f) w = w
  approved-stop Sizes w = w
  approved-stop (Found finding) w = w
  approved-stop (Slot v) w = w
  approved-stop (Frame f) w = w
  approved-stop Memory w = w

  module _ (r2 : List ℕ) (digests : List (List ℕ)) (x : AreRead IsDigest approved_line sizes.approved r1 digests r2) where
    pub approved-room : sizes.approved + length r2 ≤ length text
    approved-room = let a = lines-fit IsDigest (codes "approved") approved_words sizes.approved r1 digests r2 x in let b = after-sizes in omega (arith, a, b)

    slots-lack : (n : ℕ) → Lacks IsSlotLine slot_line (3 + sizes.approved) sizes.slots r2 n → StopsBefore text n
    slots-lack n l = inr (
      said sizes digests l.xs [],
      l.rest,
      begun sizes.approved (length l.xs) 0 r2 l.rest l.rest digests l.xs [] x l.read (none-read IsPage page_line l.rest),
      inr (inl (x.many, l.few, refl, l.none)),
      (let m = l.number in let k = x.many in omega (arith, m, k)),
    )

    pub slots-stop : (fault : StateFault) → StopsAmong IsSlotLine slot_line (3 + sizes.approved) sizes.slots r2 fault → IsFrontFault text fault
    slots-stop NoHeader w = w
    slots-stop (BadLine n) w = slots-lack n w
    slots-stop (Missing f) w = w
    slots-stop Sizes w = w
    slots-stop (Found finding) w = w
    slots-stop (Slot v) w = w
    slots-stop (Frame f) w = w
    slots-stop Memory w = w

    module _ (r3 : List ℕ) (slots : List SlotRest) (y : AreRead IsSlotLine slot_line sizes.slots r2 slots r3) where
      pub slots-room : sizes.approved + sizes.slots + length r3 ≤ length text
      slots-room = let a = lines-fit IsSlotLine (codes "slot") slot_words sizes.slots r2 slots r3 y in let b = approved-room in omega (arith, a, b)

      pages-lack : (n : ℕ) → Lacks IsPage page_line (3 + sizes.approved + sizes.slots) sizes.frames r3 n → StopsBefore text n
      pages-lack n l = inr (
        said sizes digests slots l.xs,
        l.rest,
        begun sizes.approved sizes.slots (length l.xs) r2 r3 l.rest digests slots l.xs x y l.read,
        inr (inr (x.many, y.many, l.few, l.none)),
        (let m = l.number in let k = x.many in let j = y.many in omega (arith, m, k, j)),
      )

      pub pages-stop : (fault : StateFault) → StopsAmong IsPage page_line (3 + sizes.approved + sizes.slots) sizes.frames r3 fault → IsFrontFault text fault
      pages-stop NoHeader w = w
      pages-stop (BadLine n) w = pages-lack n w
      pages-stop (Missing f) w = w
      pages-stop Sizes w = w
      pages-stop (Found finding) w = w
      pages-stop (Slot v) w = w
      pages-stop (Frame f) w = w
      pages-stop Memory w = w

      pub all-begun : (r4 : List ℕ) (pages : List (List ℕ)) → AreRead IsPage page_line sizes.frames r3 pages r4 → BeginsWith text (said sizes digests slots pages) r4 × IsWholeFront (said sizes digests slots pages)
      all-begun r4 pages z = (begun sizes.approved sizes.slots sizes.frames r2 r3 r4 digests slots pages x y z, record { approved = x.many; slots = y.many; pages = z.many })

-- there are no more lines than bytes
pub front-short : (text rest : List ℕ) (f : Front) → BeginsWith text f rest → line_count f + length rest ≤ length text
front-short text rest f b =
    let a = many-lines IsDigest (codes "approved") approved_words f.approved in
    let s = many-lines IsSlotLine (codes "slot") slot_words f.slots in
    let p = many-lines IsPage (codes "page") page_words f.pages in
    let z = line-long (codes "config") (sizes_words f.sizes) in
    let w = ap length b.whole in
    let l1 = length-append (front_text f) rest in
    let l2 = length-append state_header (sizes_line f.sizes ++ (flat_map approved_line f.approved ++ (flat_map slot_line f.slots ++ flat_map page_line f.pages))) in
    let l3 = length-append (sizes_line f.sizes) (flat_map approved_line f.approved ++ (flat_map slot_line f.slots ++ flat_map page_line f.pages)) in
    let l4 = length-append (flat_map approved_line f.approved) (flat_map slot_line f.slots ++ flat_map page_line f.pages) in
    let l5 = length-append (flat_map slot_line f.slots) (flat_map page_line f.pages) in
    omega (arith, a, s, p, z, w, l1, l2, l3, l4, l5)

-- ---- the dump

many : (lines : List DumpLine) → length lines ≤ length (flat_map spell lines)
many [] = omega arith
many (l ∷ lines) =
    let rest = many lines in
    let a = length-append (spell l) (flat_map spell lines) in
    let b : length (spell l) ≡ length (bare l) + 1 = ap length (spell-bare l) ∙ (let c = length-append (bare l) (10 ∷ []) in omega (arith, c)) in
    omega (arith, rest, a, b)

-- a bad line of a dump is one of its lines, or the one after them
pub dump-line-low : (rest : List ℕ) (fault : DumpFault) (n : ℕ) → fault ≡ dump.BadLine n → IsRefusedDump rest fault → n ≤ length rest + 2
dump-line-low rest fault n e r = low (subst (IsRefusedDump rest) e r)
  where
    low : IsRefusedDump rest (dump.BadLine n) → n ≤ length rest + 2
    low r =
        let s = r.3 in
        let m = many s.lines in
        let w = ap length s.stops.whole in
        let a = length-append (flat_map spell s.lines) s.rest in
        let b = length-append (dump_header r.0) r.1 in
        let c = ap length r.2 in
        let k = s.why.0 in
        omega (arith, m, w, a, b, c, k)

-- a bad line is one of the text, or one of the two after it
pub bad-line-low : (text : List ℕ) (fault : StateFault) (n : ℕ) → fault ≡ BadLine n → IsRefusedState text fault → n ≤ length text + 2
bad-line-low text fault n e r = low (subst (IsRefusedState text) e r)
  where
    low : IsRefusedState text (BadLine n) → n ≤ length text + 2
    low (inl (inl stop)) = let second = stop.0 in omega (arith, second)
    low (inl (inr stop)) = let short = front-short text stop.1 stop.0 stop.2 in let here = stop.4 in omega (arith, short, here)
    low (inr stop) = by_dump stop.why
      where
        by_dump : IsDumpFault stop.front stop.rest (BadLine n) → n ≤ length text + 2
        by_dump (inl why) = let short = front-short text stop.rest stop.front stop.begins in let here = why.1 in omega (arith, short, here)
        by_dump (inr why) =
            let short = front-short text stop.rest stop.front stop.begins in
            let few = dump-line-low stop.rest (dump.BadLine why.0) why.0 refl why.1 in
            let here = why.2 in
            omega (arith, short, few, here)

pub dump-refused : (text rest : List ℕ) (f : Front) (fault : DumpFault) → BeginsWith text f rest → IsWholeFront f → IsRefusedDump rest fault → IsRefusedState text (dump_fault (line_count f) fault)
dump-refused text rest f dump.NoHeader b w r = inr (record { front = f; rest = rest; begins = b; whole = w; why = inl (r, refl) })
dump-refused text rest f (dump.BadLine n) b w r = inr (record { front = f; rest = rest; begins = b; whole = w; why = inr (n, r, refl) })
dump-refused text rest f (dump.Frame g) b w r = record { front = f; rest = rest; begins = b; whole = w; why = r }
dump-refused text rest f dump.Memory b w r = tt

-- lines before the dump, as many as they say, and the dump
pub told-is : (text rest : List ℕ) (f : Front) (t : Told) (d : Dumped) → BeginsWith text f rest → IsWholeFront f → IsDumpText rest d → t.rest.host ≡ f.sizes.host → t.rest.approved ≡ f.approved → t.rest.slots ≡ f.slots → t.rest.pages ≡ f.pages
    → t.dump ≡ d → IsTextOf text t
told-is text rest f t d b w is host approved slots pages same =
    let front : front_of t.rest ≡ f = λ i. record {
      sizes = record { slots = (ap length slots ∙ w.slots) i; frames = (ap length pages ∙ w.pages) i; host = host i; approved = (ap length approved ∙ w.approved) i };
      approved = approved i;
      slots = slots i;
      pages = pages i;
    } in
    record {
      whole = b.whole ∙ ap (λ l. front_text f ++ l) is.whole ∙ sym (λ i. front_text (front i) ++ dump_text (same i));
      front = subst IsFront (sym front) b.front;
      dump = subst (λ e. IsDumpText (dump_text e) e) (sym same) (subst (λ l. IsDumpText l d) is.whole is);
    }
