-- A page changes, and the pages of the other frames stay.
use Rattle.std.proofs.Common.{ℕ, zero, suc, ◌≡◌, ◌≢◌, ◌<◌, inl, inr, Bool, true, false, cond, nat_eq, nat_lt, List, [], ◌∷◌, length, length-set, get_or, set, Some, None, refl, sym, ap, ◌∙◌, arith}
use Rattle.std.specs.List.{slice_get}
use Rattle.std.specs.Option.{option_map}
use Rattle.std.proofs.lemmas.Bool.{cases_eq, eqb-true}
use Rattle.std.proofs.lemmas.Option.{slice_get_within}
use mathlib.Core.Path.{fun_ext}
use Rattle.kc_types.specs.Limits.{frame_limit}
use Rattle.kc_page.specs.declared.page.Page.{Page}
use Rattle.kc_parts.specs.Parts.{Held, place_of, is_filled, place_in, page_at, with_page, link_of, links_of}

slice_get-set_other : {X : Type 0} (xs : List X) (i k : ℕ) (y : X) → k ≢ i → slice_get (set xs i y) k ≡ slice_get xs k
slice_get-set_other [] i k y other = refl
slice_get-set_other (x ∷ xs) zero zero y other = absurd (other refl)
slice_get-set_other (x ∷ xs) zero (suc k) y other = refl
slice_get-set_other (x ∷ xs) (suc i) zero y other = refl
slice_get-set_other (x ∷ xs) (suc i) (suc k) y other = slice_get-set_other xs i k y (λ e. other (ap suc e))

slice_get-set_same : {X : Type 0} (xs : List X) (i : ℕ) (y : X) → i < length xs → slice_get (set xs i y) i ≡ Some y
slice_get-set_same [] i y within = absurd (omega (arith, within))
slice_get-set_same (x ∷ xs) zero y within = refl
slice_get-set_same (x ∷ xs) (suc i) y within = slice_get-set_same xs i y (omega (arith, within))

slice_get-same : {X : Type 0} (xs : List X) (i : ℕ) (y : X) → slice_get xs i ≡ Some y → set xs i y ≡ xs
slice_get-same [] i y is = refl
slice_get-same (x ∷ xs) zero y is = let same : x ≡ y = cc in rw same refl
slice_get-same (x ∷ xs) (suc i) y is = ap (λ rest. x ∷ rest) (slice_get-same xs i y is)

-- the place of a frame has its number
pub filled-number : (ns : List ℕ) (hs : List Bool) (f : ℕ) → is_filled ns hs f ≡ true → get_or ns (place_of ns f) 0 ≡ f
filled-number [] hs f filled = cc
filled-number (n ∷ ns) [] f filled = cc
filled-number (n ∷ ns) (h ∷ hs) f filled = by_first (nat_eq n f) refl filled (filled-number ns hs f)
  where
    by_first : (first : Bool) → nat_eq n f ≡ first → cond first h (is_filled ns hs f) ≡ true → (is_filled ns hs f ≡ true → get_or ns (place_of ns f) 0 ≡ f) → get_or (n ∷ ns) (cond first 0 (suc (place_of ns f))) 0 ≡ f
    by_first true same filled rest = eqb-true n f same
    by_first false other filled rest = rest filled

-- no other frame has its page at a frame's place
place-apart : (h : Held) (f g : ℕ) → place_in h f < length h.pages → g ≢ f → place_in h g ≢ place_in h f
place-apart h f g within other = by_filled (is_filled h.numbers h.filled f) (is_filled h.numbers h.filled g) refl refl within
  where
    by_filled : (a b : Bool) → is_filled h.numbers h.filled f ≡ a → is_filled h.numbers h.filled g ≡ b → cond a (place_of h.numbers f) (length h.pages) < length h.pages
        → cond b (place_of h.numbers g) (length h.pages) ≢ cond a (place_of h.numbers f) (length h.pages)
    by_filled false b at by low = absurd (omega (arith, low))
    by_filled true false at by low = λ same. omega (arith, low, same)
    by_filled true true at by low = λ same. other (sym (filled-number h.numbers h.filled g by) ∙ ap (λ i. get_or h.numbers i 0) same ∙ filled-number h.numbers h.filled f at)

place-kept : (h : Held) (f g : ℕ) (page : Page) → place_in (with_page h f page) g ≡ place_in h g
place-kept h f g page = ap (λ n. cond (is_filled h.numbers h.filled g) (place_of h.numbers g) n) (length-set {A = Page} h.pages (place_in h f) page)

-- writing a page back changes nothing
pub page-same : (h : Held) (f : ℕ) (page : Page) → page_at h f ≡ Some page → with_page h f page ≡ h
page-same h f page is = ap (λ (pages : List Page). record h { pages = pages }) (slice_get-same h.pages (place_in h f) page is)

pub page-set : (h : Held) (f : ℕ) (old new : Page) → page_at h f ≡ Some old → page_at (with_page h f new) f ≡ Some new
page-set h f old new is = ap (slice_get (set h.pages (place_in h f) new)) (place-kept h f f new) ∙ slice_get-set_same h.pages (place_in h f) new (slice_get_within h.pages (place_in h f) old is)

pub page-other : (h : Held) (f g : ℕ) (old new : Page) → page_at h f ≡ Some old → g ≢ f → page_at (with_page h f new) g ≡ page_at h g
page-other h f g old new is other =
    ap (slice_get (set h.pages (place_in h f) new)) (place-kept h f g new)
    ∙ slice_get-set_other h.pages (place_in h f) (place_in h g) new (place-apart h f g (slice_get_within h.pages (place_in h f) old is) other)

-- what is read of a page stays for all frames if it stays for the changed one
pub kept-at : {X : Type 0} (read : Page → X) (h : Held) (f : ℕ) (old new : Page) → page_at h f ≡ Some old → read new ≡ read old → (g : ℕ) → option_map read (page_at (with_page h f new) g) ≡ option_map read (page_at h g)
kept-at read h f old new is same g = elim (cases_eq g f) [
  | inl e ↦ rw e (ap (option_map read) (page-set h f old new is) ∙ ap Some same ∙ sym (ap (option_map read) is))
  | inr other ↦ ap (option_map read) (page-other h f g old new is other)
]

-- links stay if a page keeps its own
pub links-kept : (h : Held) (f : ℕ) (old new : Page) → page_at h f ≡ Some old → link_of new ≡ link_of old → links_of (with_page h f new) ≡ links_of h
links-kept h f old new is same = fun_ext (λ g. ap (λ there. cond (nat_lt g frame_limit) there None) (kept-at link_of h f old new is same g))
