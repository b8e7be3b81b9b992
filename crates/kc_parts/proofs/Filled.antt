-- A page by its place.
use Rattle.std.proofs.Common.{ℕ, zero, suc, ◌≡◌, ◌≢◌, ◌<◌, Bool, true, false, cond, ◌||◌, nat_eq, List, [], ◌∷◌, ◌++◌, length, map, get_or, set, refl, sym, ◌∙◌, ap, arith}
use Rattle.std.specs.Prelude.{Option, Some, None, slice_get}
use Rattle.std.proofs.lemmas.Bool.Decides.{nat_tests}
use Rattle.std.proofs.lemmas.Option.{slice_get_past}
use Rattle.std.proofs.lemmas.Bool.{ne_eqb, eqb-true, cond-false}
use Rattle.kc_page.specs.declared.page.Page.{Page}
use Rattle.kc_parts.specs.Parts.{IsRising, is_among, place_of, is_filled, cell_in}
use Rattle.kc_parts.proofs.Places.{rising-rest}

-- the pages of the filled places
abbrev pub cells : List Bool → List Page → List (Option Page)
cells [] ps = []
cells (b ∷ bs) [] = []
cells (b ∷ bs) (p ∷ ps) = cond b (Some p) None ∷ cells bs ps

pub bool-same : (a b : Bool) → (a ≡ true → b ≡ true) → (b ≡ true → a ≡ true) → a ≡ b
bool-same true b there back = sym (there refl)
bool-same false true there back = back refl
bool-same false false there back = refl

pub swapped : (a b : ℕ) → nat_eq a b ≡ nat_eq b a
swapped a b = bool-same (nat_eq a b) (nat_eq b a) (λ e. grind (arith, nat_tests)) (λ e. grind (arith, nat_tests))

pub page_at-cells : (ns : List ℕ) (hs : List Bool) (ps : List Page) (f : ℕ) → length hs ≡ length ns → length ps ≡ length ns
    → slice_get ps (cond (is_filled ns hs f) (place_of ns f) (length ps)) ≡ cell_in ns (cells hs ps) f
page_at-cells [] [] [] f a b = refl
page_at-cells [] (h ∷ hs) ps f a b = absurd (omega (arith, a))
page_at-cells [] [] (p ∷ ps) f a b = absurd (omega (arith, b))
page_at-cells (n ∷ ns) [] ps f a b = absurd (omega (arith, a))
page_at-cells (n ∷ ns) (h ∷ hs) [] f a b = absurd (omega (arith, b))
page_at-cells (n ∷ ns) (h ∷ hs) (p ∷ ps) f a b =
    rw (swapped f n) (by_first (nat_eq n f) h (is_filled ns hs f) (place_of ns f) _ (page_at-cells ns hs ps f (omega (arith, a)) (omega (arith, b))))
  where
    by_first : (first h filled : Bool) (place : ℕ) (rest : Option Page) → slice_get ps (cond filled place (length ps)) ≡ rest
        → slice_get (p ∷ ps) (cond (cond first h filled) (cond first 0 (suc place)) (suc (length ps))) ≡ cond first (cond h (Some p) None) rest
    by_first true true filled place rest e = refl
    by_first true false filled place rest e = slice_get_past ps (length ps) (omega arith)
    by_first false h true place rest e = e
    by_first false h false place rest e = e

pub length-cells : (hs : List Bool) (ps : List Page) → length hs ≡ length ps → length (cells hs ps) ≡ length hs
length-cells [] ps e = refl
length-cells (h ∷ hs) [] e = absurd (omega (arith, e))
length-cells (h ∷ hs) (p ∷ ps) e = ap suc (length-cells hs ps (omega (arith, e)))

pub cells-set : (hs : List Bool) (ps : List Page) (i : ℕ) (b : Bool) (p : Page) → cells (set hs i b) (set ps i p) ≡ set (cells hs ps) i (cond b (Some p) None)
cells-set [] ps i b p = refl
cells-set (h ∷ hs) [] zero b p = refl
cells-set (h ∷ hs) [] (suc i) b p = refl
cells-set (h ∷ hs) (q ∷ ps) zero b p = refl
cells-set (h ∷ hs) (q ∷ ps) (suc i) b p = ap (λ cs. cond h (Some q) None ∷ cs) (cells-set hs ps i b p)

pub cells-append : (hs : List Bool) (ps : List Page) (b : Bool) (p : Page) → length hs ≡ length ps → cells (hs ++ b ∷ []) (ps ++ p ∷ []) ≡ cells hs ps ++ cond b (Some p) None ∷ []
cells-append [] [] b p e = refl
cells-append [] (q ∷ ps) b p e = absurd (omega (arith, e))
cells-append (h ∷ hs) [] b p e = absurd (omega (arith, e))
cells-append (h ∷ hs) (q ∷ ps) b p e = ap (λ cs. cond h (Some q) None ∷ cs) (cells-append hs ps b p (omega (arith, e)))

-- a number without a place has no element
pub cell-no_place : {X : Type 0} (ns : List ℕ) (cs : List (Option X)) (f : ℕ) → ((k : ℕ) → k < length ns → get_or ns k 0 ≢ f) → cell_in ns cs f ≡ None
cell-no_place [] cs f none = refl
cell-no_place (n ∷ ns) [] f none = refl
cell-no_place (n ∷ ns) (c ∷ cs) f none =
    cond-false _ _ _ (ne_eqb f n (λ e. none 0 (omega arith) (sym e))) ∙ cell-no_place ns cs f (λ k h. none (suc k) (omega (arith, h)))

-- after a write at a place
pub cell-set : {X : Type 0} (ns : List ℕ) (cs : List (Option X)) (i g : ℕ) (x : Option X) → IsRising ns → length cs ≡ length ns → i < length ns
    → cell_in ns (set cs i x) g ≡ cond (nat_eq g (get_or ns i 0)) x (cell_in ns cs g)
cell-set [] cs i g x up l h = absurd (omega (arith, h))
cell-set (n ∷ ns) [] i g x up l h = absurd (omega (arith, l))
cell-set {X} (n ∷ ns) (c ∷ cs) zero g x up l h = set_first (nat_eq g n) x c (cell_in ns cs g)
  where
    set_first : (b : Bool) (x c y : Option X) → cond b x y ≡ cond b x (cond b c y)
    set_first true x c y = refl
    set_first false x c y = refl
cell-set {X} (n ∷ ns) (c ∷ cs) (suc i) g x up l h =
    let below : n < get_or ns i 0 = up 0 (suc i) (omega arith) h in
    set_later (nat_eq g n) (nat_eq g (get_or ns i 0)) x c _ _
    (λ a. ne_eqb g (get_or ns i 0) (λ e. omega (arith, below, e, eqb-true g n a)))
    (cell-set ns cs i g x (rising-rest n ns up) (omega (arith, l)) (omega (arith, h)))
  where
    set_later : (b d : Bool) (x c y z : Option X) → (b ≡ true → d ≡ false) → z ≡ cond d x y → cond b c z ≡ cond d x (cond b c y)
    set_later true d x c y z differ e = sym (cond-false d x c (differ refl))
    set_later false d x c y z differ e = e

-- cells by their numbers
pub cell-by_numbers : (ns : List ℕ) (get : ℕ → Option Page) (f : ℕ) → cell_in ns (map get ns) f ≡ cond (is_among ns f) (get f) None
cell-by_numbers [] get f = refl
cell-by_numbers (n ∷ ns) get f =
    by_first (nat_eq f n) (is_among ns f) (get n) (cell_in ns (map get ns) f) (get f) (λ b. ap get (sym (eqb-true f n b))) (cell-by_numbers ns get f)
  where
    by_first : (b d : Bool) (x z y : Option Page) → (b ≡ true → x ≡ y) → z ≡ cond d y None → cond b x z ≡ cond (b || d) y None
    by_first true d x z y same e = same refl
    by_first false d x z y same e = e
