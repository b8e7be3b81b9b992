-- What is kept while pages are put back.
use Rattle.std.proofs.Common.{ℕ, suc, ◌≡◌, ◌≢◌, ◌<◌, Bool, true, false, cond, nat_eq, List, [], ◌∷◌, ◌++◌, length, get_or, inl, inr, refl, sym, ◌∙◌, ap, arith}
use Rattle.std.specs.Prelude.{Option, Some, None}
use Rattle.std.proofs.lemmas.Bool.{cases_lt, eq-eqb, ne_eqb, eqb-true}
use Rattle.std.proofs.lemmas.List.{get_or_append_left, get_or_past}
use Rattle.std.proofs.Math.Seq.{get_or-append_seam}
use Rattle.std.proofs.Math.ListN.{length-append}
use Rattle.kc_page.specs.declared.page.Page.{Page}
use Rattle.kc_parts.specs.Parts.{Held, IsHeld, IsRising, page_at, cell_in}
use Rattle.kc_parts.specs.Cuts.{either}
use Rattle.kc_parts.specs.Moves.{AreFrames, IsEmptyPlace, IsLaid, only_at}
use Rattle.kc_parts.proofs.Filled.{cells, cells-append, length-cells, cell-no_place}
use Rattle.kc_parts.proofs.SlotMoves.{either-none}
use Rattle.kc_parts.proofs.Blanks.{blanks-front}

-- one more place at the end
cell-last : (ns : List ℕ) (cs : List (Option Page)) (n : ℕ) (c : Option Page) (g : ℕ) → length cs ≡ length ns → ((k : ℕ) → k < length ns → get_or ns k 0 ≢ n)
    → cell_in (ns ++ n ∷ []) (cs ++ c ∷ []) g ≡ either (cell_in ns cs g) (cond (nat_eq g n) c None)
cell-last [] [] n c g l absent = refl
cell-last [] (d ∷ cs) n c g l absent = absurd (omega (arith, l))
cell-last (m ∷ ns) [] n c g l absent = absurd (omega (arith, l))
cell-last (m ∷ ns) (d ∷ cs) n c g l absent =
    by_test (nat_eq g m) refl (cell-last ns cs n c g (omega (arith, l)) (λ k h. absent (suc k) (omega (arith, h))))
  where
    by_test : (b : Bool) → nat_eq g m ≡ b → cell_in (ns ++ n ∷ []) (cs ++ c ∷ []) g ≡ either (cell_in ns cs g) (cond (nat_eq g n) c None)
        → cond b d (cell_in (ns ++ n ∷ []) (cs ++ c ∷ []) g) ≡ either (cond b d (cell_in ns cs g)) (cond (nat_eq g n) c None)
    by_test true e rest =
        let no_more : nat_eq g n ≡ false = ne_eqb g n (λ is. absent 0 (omega arith) (sym (eqb-true g m e) ∙ is)) in
        rw no_more (sym (either-none d))
    by_test false e rest = rest

front-rising : (ns : List ℕ) (n : ℕ) → IsRising (ns ++ n ∷ []) → IsRising ns
front-rising ns n up i j l h =
    let e : get_or (ns ++ n ∷ []) i 0 ≡ get_or ns i 0 = get_or_append_left ns (n ∷ []) 0 i (omega (arith, l, h)) in
    let f : get_or (ns ++ n ∷ []) j 0 ≡ get_or ns j 0 = get_or_append_left ns (n ∷ []) 0 j h in
    let less : get_or (ns ++ n ∷ []) i 0 < get_or (ns ++ n ∷ []) j 0 = up i j l (omega (arith, h, length-append ns (n ∷ []))) in omega (arith, e, f, less)

front-frames : (ns : List ℕ) (n : ℕ) → AreFrames (ns ++ n ∷ []) → AreFrames ns
front-frames ns n all i = elim (cases_lt i (length ns)) [
  | inl within ↦ let e : get_or (ns ++ n ∷ []) i 0 ≡ get_or ns i 0 = get_or_append_left ns (n ∷ []) 0 i within in rw (← e) (all i)
  | inr past ↦ rw (get_or_past ns i 0 past) (omega arith)
]

below-last : (ns : List ℕ) (n : ℕ) → IsRising (ns ++ n ∷ []) → (k : ℕ) → k < length ns → get_or ns k 0 ≢ n
below-last ns n up k h is =
    let e : get_or (ns ++ n ∷ []) k 0 ≡ get_or ns k 0 = get_or_append_left ns (n ∷ []) 0 k h in
    let f : get_or (ns ++ n ∷ []) (length ns) 0 ≡ n = get_or-append_seam ns n [] 0 in
    let less : get_or (ns ++ n ∷ []) k 0 < get_or (ns ++ n ∷ []) (length ns) 0 = up k (length ns) h (omega (arith, length-append ns (n ∷ []))) in
    absurd (omega (arith, e, f, less, is))

empty-at_last : (ns : List ℕ) (cs : List (Option Page)) (n : ℕ) (c : Option Page) (h : Held) → length cs ≡ length ns → IsRising (ns ++ n ∷ [])
    → ((f : ℕ) (page : Page) → cell_in (ns ++ n ∷ []) (cs ++ c ∷ []) f ≡ Some page → IsEmptyPlace h f) → (page : Page) → c ≡ Some page → IsEmptyPlace h n
empty-at_last ns cs n c h l up fits page e =
    let gone : cell_in ns cs n ≡ None = cell-no_place ns cs n (below-last ns n up) in
    fits n page (cell-last ns cs n c n l (below-last ns n up) ∙ rw (gone, eq-eqb n n refl) e)

pub record Steps (all_ns : List ℕ) (all_cs : List (Option Page)) (ns : List ℕ) (cs : List (Option Page)) (before after : Held) : Type 0 where
  pub fits : (f : ℕ) (page : Page) → cell_in ns cs f ≡ Some page → IsEmptyPlace after f
  pub joined : (f : ℕ) → either (page_at after f) (cell_in ns cs f) ≡ either (page_at before f) (cell_in all_ns all_cs f)

put-step : (ns : List ℕ) (cs : List (Option Page)) (n : ℕ) (c : Option Page) (before after : Held) → length cs ≡ length ns → IsRising (ns ++ n ∷ [])
    → ((f : ℕ) (page : Page) → cell_in (ns ++ n ∷ []) (cs ++ c ∷ []) f ≡ Some page → IsEmptyPlace before f)
    → IsLaid (only_at n c) before after → Steps (ns ++ n ∷ []) (cs ++ c ∷ []) ns cs before after
put-step ns cs n c before after l up fits laid =
    record {
      fits = λ f page e. fits_at f page e (nat_eq f n) refl;
      joined = λ f. joined_at f (nat_eq f n) refl;
    }
  where
    fits_at : (f : ℕ) (page : Page) → cell_in ns cs f ≡ Some page → (b : Bool) → nat_eq f n ≡ b → IsEmptyPlace after f
    fits_at f page e true same =
        let gone : cell_in ns cs n ≡ None = cell-no_place ns cs n (below-last ns n up) in
        let no_cell : cell_in ns cs f ≡ None = rw (eqb-true f n same) gone in cc
    fits_at f page e false same =
        let was = fits f page (cell-last ns cs n c f l (below-last ns n up) ∙ rw e refl) in
        (rw laid.numbers was.0, laid.pages f ∙ rw (was.1, same) refl)

    joined_at : (f : ℕ) (b : Bool) → nat_eq f n ≡ b → either (page_at after f) (cell_in ns cs f) ≡ either (page_at before f) (cell_in (ns ++ n ∷ []) (cs ++ c ∷ []) f)
    joined_at f true same =
        let gone : cell_in ns cs f ≡ None = rw (eqb-true f n same) (cell-no_place ns cs n (below-last ns n up)) in
        rw (cell-last ns cs n c f l (below-last ns n up), laid.pages f, gone, same) (either-none _)
    joined_at f false same =
        rw (cell-last ns cs n c f l (below-last ns n up), laid.pages f, same, either-none (page_at before f), either-none (cell_in ns cs f)) refl

-- the same, over flags and pages
cells-all : (hs all_hs : List Bool) (ps all_ps : List Page) (b : Bool) (p : Page) → all_hs ≡ hs ++ b ∷ [] → all_ps ≡ ps ++ p ∷ [] → length hs ≡ length ps
    → cells all_hs all_ps ≡ cells hs ps ++ cond b (Some p) None ∷ []
cells-all hs all_hs ps all_ps b p e f same = rw (e, f) (cells-append hs ps b p same)

-- the last place, and those before it
pub record IsLast (all_ns ns : List ℕ) (all_hs hs : List Bool) (all_ps ps : List Page) (n : ℕ) (b : Bool) (p : Page) : Type 0 where
  pub held : IsHeld all_ns all_hs all_ps
  pub numbers : all_ns ≡ ns ++ n ∷ []
  pub filled : all_hs ≡ hs ++ b ∷ []
  pub pages : all_ps ≡ ps ++ p ∷ []

rest-lengths : {all_ns ns : List ℕ} {all_hs hs : List Bool} {all_ps ps : List Page} {n : ℕ} {b : Bool} {p : Page} → IsLast all_ns ns all_hs hs all_ps ps n b p → (length hs ≡ length ns) × (length ps ≡ length ns) × (length hs ≡ length ps)
rest-lengths {ns = ns} {hs = hs} {ps = ps} {n = n} {b = b} {p = p} last =
    let a = ap length last.numbers ∙ length-append ns (n ∷ []) in
    let d = ap length last.filled ∙ length-append hs (b ∷ []) in
    let e = ap length last.pages ∙ length-append ps (p ∷ []) in
    let h = last.held.flags in
    let k = last.held.pages in
    (omega (arith, a, d, h), omega (arith, a, e, k), omega (arith, a, d, e, h, k))

pub front-held : {all_ns ns : List ℕ} {all_hs hs : List Bool} {all_ps ps : List Page} {n : ℕ} {b : Bool} {p : Page} → IsLast all_ns ns all_hs hs all_ps ps n b p → IsHeld ns hs ps
front-held {ns = ns} {hs = hs} {ps = ps} {n = n} {b = b} {p = p} last =
    let lengths = rest-lengths last in
    record {
      rising = front-rising ns n (rw (← last.numbers) last.held.rising);
      frames = front-frames ns n (rw (← last.numbers) last.held.frames);
      flags = lengths.0;
      pages = lengths.1;
      blanks = blanks-front hs ps b p lengths.2 (rw (← last.filled, ← last.pages) last.held.blanks);
    }

pub last-empty : {all_ns ns : List ℕ} {all_hs hs : List Bool} {all_ps ps : List Page} {n : ℕ} {b : Bool} {p : Page} → IsLast all_ns ns all_hs hs all_ps ps n b p → (h : Held)
    → ((f : ℕ) (page : Page) → cell_in all_ns (cells all_hs all_ps) f ≡ Some page → IsEmptyPlace h f) → b ≡ true → IsEmptyPlace h n
last-empty {ns = ns} {all_hs = all_hs} {hs = hs} {all_ps = all_ps} {ps = ps} {n = n} {b = b} {p = p} last h fits e =
    let lengths = rest-lengths last in
    let all = cells-all hs all_hs ps all_ps b p last.filled last.pages lengths.2 in
    empty-at_last ns (cells hs ps) n (cond b (Some p) None) h (length-cells hs ps lengths.2 ∙ lengths.0) (rw (← last.numbers) last.held.rising)
    (λ f page is. fits f page (rw (last.numbers, all) is)) p (rw e refl)

pub put-last : {all_ns ns : List ℕ} {all_hs hs : List Bool} {all_ps ps : List Page} {n : ℕ} {b : Bool} {p : Page} → IsLast all_ns ns all_hs hs all_ps ps n b p → (before after : Held)
    → ((f : ℕ) (page : Page) → cell_in all_ns (cells all_hs all_ps) f ≡ Some page → IsEmptyPlace before f) → IsLaid (only_at n (cond b (Some p) None)) before after
    → Steps all_ns (cells all_hs all_ps) ns (cells hs ps) before after
put-last {ns = ns} {all_hs = all_hs} {hs = hs} {all_ps = all_ps} {ps = ps} {n = n} {b = b} {p = p} last before after fits laid =
    let lengths = rest-lengths last in
    let all = cells-all hs all_hs ps all_ps b p last.filled last.pages lengths.2 in
    rw (last.numbers, all)
    (put-step ns (cells hs ps) n (cond b (Some p) None) before after (length-cells hs ps lengths.2 ∙ lengths.0) (rw (← last.numbers) last.held.rising)
    (λ f page is. fits f page (rw (last.numbers, all) is)) laid)

pub cells-end : (ns : List ℕ) (cs : List (Option Page)) (f : ℕ) → length ns ≡ 0 → cell_in ns cs f ≡ None
cells-end [] cs f e = refl
cells-end (n ∷ ns) cs f e = absurd (omega (arith, e))
