-- Blanks at the places that are not filled.
use Rattle.std.proofs.Common.{map, ℕ, zero, suc, ◌≡◌, Bool, true, false, cond, nat_eq, List, [], ◌∷◌, ◌++◌, length, get_or, set, replicate, refl, ◌∙◌, ap, arith, length-set}
use Rattle.std.proofs.lemmas.List.{get_or_past, length-map}
use Rattle.kc_page.specs.declared.page.Page.{Page}
use Rattle.kc_parts.specs.Parts.{IsHeld, AreBlanks, blank_page, place_of, is_filled}

-- if all places are filled there is no blank
pub blanks-filled : (n : ℕ) (ps : List Page) → AreBlanks (replicate n true) ps
blanks-filled zero ps i e = cc
blanks-filled (suc n) ps zero e = cc
blanks-filled (suc n) [] (suc i) e = refl
blanks-filled (suc n) (p ∷ ps) (suc i) e = blanks-filled n ps i e

-- the page of a filled place changes, or one past the places
blanks-page : (hs : List Bool) (ps : List Page) (i : ℕ) (p : Page) → get_or hs i true ≡ true → AreBlanks hs ps → AreBlanks hs (set ps i p)
blanks-page [] ps i p at are k e = cc
blanks-page (h ∷ hs) [] i p at are k e = refl
blanks-page (h ∷ hs) (q ∷ ps) zero p at are zero e = cc
blanks-page (h ∷ hs) (q ∷ ps) zero p at are (suc k) e = are (suc k) e
blanks-page (h ∷ hs) (q ∷ ps) (suc i) p at are zero e = are zero e
blanks-page (h ∷ hs) (q ∷ ps) (suc i) p at are (suc k) e = blanks-page hs ps i p at (λ j. are (suc j)) k e

pub blanks-front : (hs : List Bool) (ps : List Page) (b : Bool) (p : Page) → length hs ≡ length ps → AreBlanks (hs ++ b ∷ []) (ps ++ p ∷ []) → AreBlanks hs ps
blanks-front [] ps b p same are k e = cc
blanks-front (h ∷ hs) [] b p same are k e = refl
blanks-front (h ∷ hs) (q ∷ ps) b p same are zero e = are zero e
blanks-front (h ∷ hs) (q ∷ ps) b p same are (suc k) e = blanks-front hs ps b p (omega (arith, same)) (λ j. are (suc j)) k e

-- the flag at the place of a frame that is here
filled-flag : (ns : List ℕ) (hs : List Bool) (f : ℕ) → is_filled ns hs f ≡ true → get_or hs (place_of ns f) true ≡ true
filled-flag [] hs f e = cc
filled-flag (n ∷ ns) [] f e = refl
filled-flag (n ∷ ns) (h ∷ hs) f e = by_first (nat_eq n f) e (filled-flag ns hs f)
  where
    by_first : (first : Bool) → cond first h (is_filled ns hs f) ≡ true → (is_filled ns hs f ≡ true → get_or hs (place_of ns f) true ≡ true) → get_or (h ∷ hs) (cond first 0 (suc (place_of ns f))) true ≡ true
    by_first true e rest = e
    by_first false e rest = rest e

-- a page that is here may become any page
pub held-page : (ns : List ℕ) (hs : List Bool) (ps : List Page) (f : ℕ) (p : Page) → IsHeld ns hs ps → IsHeld ns hs (set ps (cond (is_filled ns hs f) (place_of ns f) (length ps)) p)
held-page ns hs ps f p held = record {
  rising = held.rising;
  frames = held.frames;
  flags = held.flags;
  pages = length-set ps (cond (is_filled ns hs f) (place_of ns f) (length ps)) p ∙ held.pages;
  blanks = blanks-page hs ps (cond (is_filled ns hs f) (place_of ns f) (length ps)) p (flag (is_filled ns hs f) refl) held.blanks;
}
  where
    flag : (b : Bool) → is_filled ns hs f ≡ b → get_or hs (cond b (place_of ns f) (length ps)) true ≡ true
    flag true e = filled-flag ns hs f e
    flag false e = get_or_past hs (length ps) true (omega (arith, held.flags, held.pages))

-- a page and its flag change together
blanks-set : (hs : List Bool) (ps : List Page) (i : ℕ) (b : Bool) (p : Page) → (b ≡ false → p ≡ blank_page) → AreBlanks hs ps → AreBlanks (set hs i b) (set ps i p)
blanks-set [] ps i b p ok are k e = cc
blanks-set (h ∷ hs) [] i b p ok are k e = refl
blanks-set (h ∷ hs) (q ∷ ps) zero b p ok are zero e = ok e
blanks-set (h ∷ hs) (q ∷ ps) zero b p ok are (suc k) e = are (suc k) e
blanks-set (h ∷ hs) (q ∷ ps) (suc i) b p ok are zero e = are zero e
blanks-set (h ∷ hs) (q ∷ ps) (suc i) b p ok are (suc k) e = blanks-set hs ps i b p ok (λ j. are (suc j)) k e

-- a place is filled, or becomes empty with a blank
pub held-set : (ns : List ℕ) (hs : List Bool) (ps : List Page) (i : ℕ) (b : Bool) (p : Page) → (b ≡ false → p ≡ blank_page) → IsHeld ns hs ps → IsHeld ns (set hs i b) (set ps i p)
held-set ns hs ps i b p ok held = record {
  rising = held.rising;
  frames = held.frames;
  flags = length-set hs i b ∙ held.flags;
  pages = length-set ps i p ∙ held.pages;
  blanks = blanks-set hs ps i b p ok held.blanks;
}

-- a change of each page that leaves a blank as it is
blank-changed : (f : Page → Page) (ps : List Page) (i : ℕ) → f blank_page ≡ blank_page → get_or ps i blank_page ≡ blank_page → get_or (map f ps) i blank_page ≡ blank_page
blank-changed f [] i same e = refl
blank-changed f (p ∷ ps) zero same e = ap f e ∙ same
blank-changed f (p ∷ ps) (suc i) same e = blank-changed f ps i same e

pub held-changed : (f : Page → Page) (numbers : List ℕ) (filled : List Bool) (pages : List Page) → f blank_page ≡ blank_page → IsHeld numbers filled pages → IsHeld numbers filled (map f pages)
held-changed f numbers filled pages same is = record {
  rising = is.rising;
  frames = is.frames;
  flags = is.flags;
  pages = length-map pages f ∙ is.pages;
  blanks = λ i e. blank-changed f pages i same (is.blanks i e);
}
