-- If no line may come, no dump goes on.
use Rattle.std.proofs.Common.{ℕ, zero, suc, ◌≡◌, ◌<◌, ◌≤◌, ◌+◌, ◌-◌, Bool, true, false, ◌&&◌, nat_lt, List, [], ◌∷◌, ◌++◌, length, replicate, Some, refl, sym, ap, subst, ◌∙◌, append_assoc, arith, inl, inr, eq-eqb}
use Rattle.std.specs.Prelude.{◌==◌, ◌⊎◌, not}
use Rattle.std.specs.List.{flat_map, list_all, filter_map}
use Rattle.std.proofs.lemmas.Bool.{and_parts, and_from, eqb-true, lt-ltb, le-leb, eqb-false, ne_eqb, not-true, ltb-true, ltb-false, cases_Bool}
use Rattle.std.proofs.lemmas.List.{append-nil, nil_from_length}
use Rattle.kc_types.specs.Limits.{frame_limit}
use Rattle.kc_types.specs.Configuration.{slots_of}
use Rattle.kc_types.specs.declared.version.Version.{Version}
use Rattle.kc_types.specs.declared.version.Version.TheVariants.{One, Two, Three}
use Rattle.kc_types.specs.declared.link.Ends.{Ends}
use Rattle.kc_types.specs.declared.slot.Phase.TheVariants.{Empty}
use Rattle.kc_dump.specs.declared.line.FrameLine.{FrameLine}
use Rattle.kc_dump.specs.Ranges.{are_ends, is_frame}
use Rattle.kc_dump.specs.Dump.{Dumped, absent_line, no_ends}
use Rattle.kc_dump_text.specs.declared.place.Place.{Place}
use Rattle.kc_dump_text.specs.declared.dump_line.DumpLine.{DumpLine}
use Rattle.kc_dump_text.specs.declared.dump_line.DumpLine.TheVariants.{SizeOf, FreeOf, VmOf, FrameOf}
use Rattle.kc_dump_text.specs.declared.fault.DumpFault.TheVariants.{BadLine, Frame}
use Rattle.kc_dump_text.specs.DumpText.{spell, dump_lines, rest_of}
use Rattle.kc_dump_text.specs.Places.{is_size, is_free, in_range, is_other, may, place_after, start, chain, end}
use Rattle.kc_dump_text.specs.Refused.{GoesOn, Starts, DumpStopsAt, DumpStopsFor, LacksFrame}
use Rattle.kc_dump_text.specs.Begun.{first_line, newlines, begins, HasNone, HasOther, nothing, with_line, begun_lines, IsPlace, IsAt, IsBegun, IsTextOf}
use Rattle.kc_dump_text.proofs.ReadLines.{first-spelled, line-newlines}
use Rattle.kc_dump_text.proofs.Chains.{may-parts, may-from, chain-range, chain-after, all-after, few-of, dump-range, dump-chain, is-dump}
use Rattle.kc_dump_text.proofs.Growing.{begun-more}
use Rattle.kc_dump_text.proofs.Followed.{frame, frames-picked}

-- ---- each begun dump is the beginning of a dump

-- a frame of the core, all zeros
abbrev zero-frame : FrameLine
zero-frame = record absent_line { digest = replicate 32 0 }

module _ (version : Version) (n : ℕ) where
  abbrev pub Goes : List DumpLine → Type 0
  Goes lines = (d : Dumped) × (next : List DumpLine) × GoesOn version lines d next

  -- one more line, and what follows it
  more : (d : Dumped) (place : Place) (l : DumpLine) → IsBegun version n d place → may version n place l ≡ true → (IsBegun version n (with_line d l) (place_after place l) → Goes (begun_lines n (with_line d l))) → (e : Dumped) × (next : List DumpLine) × GoesOn version (begun_lines n d) e (l ∷ next)
  more d place l b is rest =
      let a = begun-more version n d place l b is in
      let g = rest a.0 in
      (g.0, g.1, record { range = g.2.range; same = g.2.same; spelled = g.2.spelled ∙ ap (λ (ls : List DumpLine). ls ++ g.1) a.1 ∙ append_assoc (begun_lines n d) (l ∷ []) g.1 })

  zero-may : (d : Dumped) (place : Place) → IsBegun version n d place → place.vm ≡ slots_of version → place.frame < n → may version n place (FrameOf place.frame zero-frame) ≡ true
  zero-may d place b all low = may-from version n place (FrameOf place.frame zero-frame) b.right.order (and_from _ _ (eq-eqb _ _ all) (eq-eqb _ _ refl)) (and_from _ _ (lt-ltb place.frame n low) refl)

  -- slots without a VM and then frames of the core, this many lines in all
  goes : (k : ℕ) (d : Dumped) (place : Place) → IsBegun version n d place → (slots_of version - place.vm) + (n - place.frame) ≡ k → Goes (begun_lines n d)
  goes zero d place b left =
      let few = b.right.slots in
      let frames : length d.frames ≡ n = (let f = b.right.frames in let a = b.here.frames in omega (arith, f, left, a)) in
      (d, [], record { range = is-dump version n d b.same frames b.sizes b.free (b.here.slots ∙ omega (arith, few, left)) b.chain; same = b.same; spelled = ap (λ m. begun_lines m d) frames ∙ sym (append-nil (begun_lines n d)) })
  goes (suc k) d place b left = elim (cases_Bool (nat_lt place.vm (slots_of version))) [
    | inl h ↦
        let l : DumpLine = VmOf place.vm Empty no_ends in
        let low = ltb-true place.vm (slots_of version) h in
        let order = b.right.early low in
        let g = more d place l b (may-from version n place l (omega (arith, order)) (eq-eqb _ _ refl) (and_from _ _ h (le-leb 0 n (omega arith)))) (λ c. goes k (with_line d l) (place_after place l) c (omega (arith, left, low))) in
        (g.0, l ∷ g.1, g.2)
    | inr h ↦
        let l : DumpLine = FrameOf place.frame zero-frame in
        let all : place.vm ≡ slots_of version = (let few = b.right.slots in let a = ltb-false place.vm (slots_of version) h in omega (arith, a, few)) in
        let low : place.frame < n = omega (arith, all, left) in
        let g = more d place l b (zero-may d place b all low) (λ c. goes k (with_line d l) (place_after place l) c (omega (arith, left, low))) in
        (g.0, l ∷ g.1, g.2)
  ]

-- ---- no dump goes on

-- a text that does not go on with such a line does not begin with one
none-such : (is : DumpLine → Bool) (rest : List ℕ) (l : DumpLine) → HasNone is rest → first_line rest ≡ Some l → is l ≡ true → ⊥
none-such is rest l none first holds = let e : true ≡ false = sym holds ∙ ap (begins is) (sym first) ∙ none in absurd cc

module _ (version : Version) (text : List ℕ) where
  -- a dump goes on with such a line, or with nothing although there is more
  stops : (n : ℕ) (lines : List DumpLine) (rest : List ℕ) (is : DumpLine → Bool) → text ≡ flat_map spell lines ++ rest → Goes version n lines → HasNone is rest
      → ((d : Dumped) (next : List DumpLine) → GoesOn version lines d next → ((next ≡ []) × (rest ≡ [] → ⊥)) ⊎ ((l : DumpLine) × (ls : List DumpLine) × (next ≡ l ∷ ls) × (is l ≡ true))) → DumpStopsAt version text lines rest
  stops n lines rest is whole goes none due = record {
    whole = whole;
    begun = goes;
    stuck = λ d next on s. elim (due d next on) [
      | inl h ↦ h.1 (subst (Starts rest) h.0 s)
      | inr h ↦
          let t = subst (Starts rest) h.2 s in
          none-such is rest h.0 none (ap first_line t.1 ∙ first-spelled d.version (length d.frames) h.0 t.0 (few-of d on.range) (and_parts (in_range d.version (length d.frames) h.0) _ (all-after _ lines (h.0 ∷ h.1) (subst (λ ls. list_all (in_range d.version (length d.frames)) ls ≡ true) (on.spelled ∙ ap (λ (ls : List DumpLine). lines ++ ls) h.2) (dump-range d on.range)))).0) h.3
    ];
  }

  -- ---- the first two lines

  pub begun-none : (n core leaves : ℕ) (ends : Ends) → is_size version (SizeOf n core leaves) ≡ true → are_ends n ends ≡ true → IsBegun version n (nothing version core leaves ends) start
  begun-none n core leaves ends size free =
      let right : IsPlace version n start = record { order = omega arith; slots = omega arith; frames = omega arith; early = λ l. refl } in
      let here : IsAt (nothing version core leaves ends) start = record { slots = refl; leaves = λ k l. refl; count = refl; entries = λ k l. refl; frames = refl; before_leaves = λ s k l. refl; before_entries = λ s k l. refl; before_frames = λ s. refl } in
      record { same = refl; sizes = size; free = free; chain = refl; reached = refl; right = right; here = here }

  bare-goes : (n core leaves : ℕ) → is_size version (SizeOf n core leaves) ≡ true → Goes version n (begun_lines n (nothing version core leaves no_ends))
  bare-goes n core leaves size = goes version n _ (nothing version core leaves no_ends) start (begun-none n core leaves no_ends size (le-leb 0 n (omega arith))) refl

  smallest : (v : Version) → is_size v (SizeOf 1 0 1) ≡ true
  smallest One = refl
  smallest Two = refl
  smallest Three = refl

  pub no-size : HasNone (is_size version) text → DumpStopsFor version text (BadLine 2)
  no-size none =
      let g = bare-goes 1 0 1 (smallest version) in
      let stuck = stops 1 [] text (is_size version) refl (g.0, dump_lines g.0, record { range = g.2.range; same = g.2.same; spelled = refl }) none
      (λ d next on. inr (SizeOf (length d.frames) d.core d.leaves, FreeOf d.free ∷ rest_of d, sym on.spelled, subst (λ v. is_size v (SizeOf (length d.frames) d.core d.leaves) ≡ true) on.same (and_parts (is_size d.version (SizeOf (length d.frames) d.core d.leaves)) _ (dump-range d on.range)).0)) in
      record { lines = []; rest = text; stops = stuck; why = (refl, λ f l. (let e = l.due.spelled in absurd cc)) }

  pub no-free : (n core leaves : ℕ) (rest : List ℕ) → text ≡ spell (SizeOf n core leaves) ++ rest → is_size version (SizeOf n core leaves) ≡ true → HasNone (is_free n) rest → DumpStopsFor version text (BadLine 3)
  no-free n core leaves rest whole size none =
      let g = bare-goes n core leaves size in
      let lines = SizeOf n core leaves ∷ [] in
      let stuck = stops n lines rest (is_free n) (whole ∙ ap (λ (s : List ℕ). s ++ rest) (sym (append-nil (spell (SizeOf n core leaves))))) (g.0, FreeOf no_ends ∷ g.1, record { range = g.2.range; same = g.2.same; spelled = g.2.spelled }) none
      (λ d next on. (let e = on.spelled in let same : length d.frames ≡ n = cc in inr (FreeOf d.free, rest_of d, cc, subst (λ m. are_ends m d.free ≡ true) same on.range.free))) in
      record { lines = lines; rest = rest; stops = stuck; why = (refl, λ f l. (let e = l.due.spelled in absurd cc)) }

  -- ---- the lines after them

  module _ (n : ℕ) (p : Dumped) (place : Place) (rest : List ℕ) (b : IsBegun version n p place) (whole : text ≡ flat_map spell (begun_lines n p) ++ rest) where
    -- a dump that goes on has as many frames, and its next lines may come
    goes-on : (d : Dumped) (next : List DumpLine) → GoesOn version (begun_lines n p) d next → (length d.frames ≡ n) × (rest_of d ≡ rest_of p ++ next) × (chain version n place next ≡ true)
    goes-on d next on =
        let e = on.spelled in
        let long : length d.frames ≡ n = cc in
        let lines : rest_of d ≡ rest_of p ++ next = cc in
        let all : chain version n start (rest_of d) ≡ true = subst (λ w. chain w n start (rest_of d) ≡ true) on.same (subst (λ m. chain d.version m start (rest_of d) ≡ true) long (dump-chain d on.range)) in
        (long, lines, rw b.reached at (chain-after version n start (rest_of p) next (subst (λ ls. chain version n start ls ≡ true) lines all)))

    -- a dump that ends there has no further slot and no further frame
    ended : (d : Dumped) → GoesOn version (begun_lines n p) d [] → (place.vm ≡ slots_of version) × (place.frame ≡ n)
    ended d on =
        let g = goes-on d [] on in
        let size = g.0 in
        let some = on.range.some_frames in
        let frames : d.frames ≡ p.frames = sym (frames-picked d) ∙ ap (filter_map frame) (g.1 ∙ append-nil (rest_of p)) ∙ frames-picked p in
        let all : place.vm ≡ slots_of version = elim (cases_Bool (nat_lt place.vm (slots_of version))) [ inl h ↦ let z = b.right.early (ltb-true place.vm (slots_of version) h) in let none : length d.frames ≡ 0 = ap length (frames ∙ b.here.before_frames (omega (arith, z))) in absurd (omega (arith, none, some)) | inr h ↦ omega (arith, b.right.slots, ltb-false place.vm (slots_of version) h) ] in
        (all, sym b.here.frames ∙ ap length (sym frames) ∙ size)

    module _ (none : HasNone (may version n place) rest) where
      none-goes : Goes version n (begun_lines n p) → (place.vm ≡ slots_of version → place.frame ≡ n → rest ≡ [] → ⊥) → DumpStopsAt version text (begun_lines n p) rest
      none-goes goes more = stops n (begun_lines n p) rest (may version n place) whole goes none due
        where
          due : (d : Dumped) (next : List DumpLine) → GoesOn version (begun_lines n p) d next → ((next ≡ []) × (rest ≡ [] → ⊥)) ⊎ ((l : DumpLine) × (ls : List DumpLine) × (next ≡ l ∷ ls) × (may version n place l ≡ true))
          due d [] on = let e = ended d on in inl (refl, more e.0 e.1)
          due d (l ∷ ls) on = inr (l, ls, refl, (and_parts (may version n place l) _ (goes-on d (l ∷ ls) on).2).0)

      -- the line of the next frame should come
      pub frame-missing : place.vm ≡ slots_of version → place.frame < n → (rest ≡ []) ⊎ HasOther version n place.frame rest → DumpStopsFor version text (Frame place.frame)
      frame-missing all low why =
          let f = place.frame in
          let next = more version n p place (FrameOf f zero-frame) b (zero-may version n p place b all low) (λ c. goes version n _ (with_line p (FrameOf f zero-frame)) (place_after place (FrameOf f zero-frame)) c refl) in
          let size = (goes-on next.0 (FrameOf f zero-frame ∷ next.1) next.2).0 in
          let why : (rest ≡ []) ⊎ ((other : ℕ) × (line : FrameLine) × (more : List ℕ) × (rest ≡ spell (FrameOf other line) ++ more) × (other < length next.0.frames) × (is_frame version (length next.0.frames) line ≡ true) × (other ≡ f → ⊥)) = elim why [
            | inl end ↦ inl end
            | inr x ↦
                let t = and_parts (not (x.0 == f) && nat_lt x.0 n) (is_frame version n x.1) x.4 in
                let u = and_parts (not (x.0 == f)) (nat_lt x.0 n) t.0 in
                inr (x.0, x.1, x.2, x.3, omega (arith, size, ltb-true x.0 n u.1), subst (λ m. is_frame version m x.1 ≡ true) (sym size) t.1, eqb-false x.0 f (not-true (x.0 == f) u.0))
          ] in
          record { lines = begun_lines n p; rest = rest; stops = none-goes (next.0, FrameOf f zero-frame ∷ next.1, next.2) (λ all end none. omega (arith, end, low)); why = record { dump = next.0; frame = zero-frame; next = next.1; due = next.2; why = why } }

      -- no frame's line should come, or the rest is of another kind
      pub bad-line : (m : ℕ) → m ≡ newlines (flat_map spell (begun_lines n p)) + 2 → (place.vm == slots_of version && place.frame == n && length rest == 0) ≡ false
          → (place.vm ≡ slots_of version → place.frame < n → (rest ≡ [] → ⊥) × HasNone (is_other version n place.frame) rest) → DumpStopsFor version text (BadLine m)
      bad-line m count more others =
          let g = goes version n _ p place b refl in
          let size = (goes-on g.0 g.1 g.2).0 in
          let few : n ≤ frame_limit = (let a = few-of g.0 g.2.range in omega (arith, a, size)) in
          let lines = line-newlines version n (begun_lines n p) few (and_from _ _ b.sizes (and_from _ _ b.free (chain-range version n start (rest_of p) b.chain))) in
          let stuck = none-goes g (λ all frames end. (let holds : true ≡ false = sym (and_from _ _ (and_from _ _ (eq-eqb place.vm (slots_of version) all) (eq-eqb place.frame n frames)) (eq-eqb (length rest) 0 (ap length end))) ∙ more in absurd cc)) in
          record { lines = begun_lines n p; rest = rest; stops = stuck; why = (omega (arith, lines, count), lacks) }
        where
          lacks : (f : ℕ) → LacksFrame version (begun_lines n p) rest f → ⊥
          lacks f l =
              let g = goes-on l.dump (FrameOf f l.frame ∷ l.next) l.due in
              let m = may-parts version n place (FrameOf f l.frame) (and_parts (may version n place (FrameOf f l.frame)) _ g.2).0 in
              let q = and_parts (place.vm == slots_of version) (f == place.frame) m.next in
              let at = eqb-true f place.frame q.1 in
              let low = ltb-true f n (and_parts (nat_lt f n) _ m.range).0 in
              let none = others (eqb-true place.vm (slots_of version) q.0) (omega (arith, at, low)) in
              let size = g.0 in
              let few : n ≤ frame_limit = (let a = few-of l.dump l.due.range in omega (arith, a, size)) in
              elim l.why [
                | inl end ↦ none.0 end
                | inr y ↦
                    let is : is_frame version n y.1 ≡ true = subst (λ m. is_frame version m y.1 ≡ true) size y.5 in
                    let within : nat_lt y.0 n ≡ true = lt-ltb y.0 n (let a = y.4 in omega (arith, size, a)) in
                    none-such (is_other version n place.frame) rest (FrameOf y.0 y.1) none.1 (ap first_line y.3 ∙ first-spelled version n (FrameOf y.0 y.1) y.2 few (and_from _ _ within is))
                    (and_from _ _ (and_from _ _ (ap not (ne_eqb y.0 place.frame (λ e. y.6 (e ∙ sym at)))) within) is)
              ]

    -- nothing is missing
    pub all-read : (place.vm == slots_of version && place.frame == n && length rest == 0) ≡ true → IsTextOf version text p
    all-read is =
        let u = and_parts (place.vm == slots_of version && place.frame == n) (length rest == 0) is in
        let q = and_parts (place.vm == slots_of version) (place.frame == n) u.0 in
        let all = b.here.frames ∙ eqb-true place.frame n q.1 in
        record {
          whole = whole ∙ ap (λ (r : List ℕ). flat_map spell (begun_lines n p) ++ r) (nil_from_length rest (eqb-true (length rest) 0 u.1)) ∙ append-nil (flat_map spell (begun_lines n p)) ∙ ap (λ m. flat_map spell (begun_lines m p)) (sym all);
          range = is-dump version n p b.same all b.sizes b.free (b.here.slots ∙ eqb-true place.vm (slots_of version) q.0) b.chain;
          same = b.same;
        }

-- the first two lines of a text
pub two-lines : (size free text after more : List ℕ) → text ≡ size ++ after → after ≡ free ++ more → text ≡ (size ++ (free ++ [])) ++ more
two-lines size free text after more a b = a ∙ ap (λ (s : List ℕ). size ++ s) b ∙ simp (append_assoc, append-nil)
