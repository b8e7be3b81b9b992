-- A write at the place of a frame.
use Rattle.std.proofs.Common.{ℕ, suc, ◌≡◌, ◌<◌, Bool, true, false, cond, nat_eq, List, [], ◌∷◌, length, get_or, set, refl, sym, ◌∙◌, ap, arith, length-set}
use Rattle.std.specs.Prelude.{Option, Some, None, IsSome, slice_get}
use Rattle.std.proofs.lemmas.Option.{slice_get_past}
use Rattle.std.proofs.lemmas.Bool.{eqb-true}
use Rattle.kc_types.specs.declared.link.Ends.{Ends}
use Rattle.kc_page.specs.declared.page.Page.{Page}
use Rattle.kc_parts.specs.Parts.{Held, HeldSlots, IsHeld, IsRising, place_of, is_filled, page_at, cell_in}
use Rattle.kc_parts.specs.Moves.{IsWrite, page_among}
use Rattle.kc_parts.proofs.Places.{place-found}
use Rattle.kc_parts.proofs.Filled.{cells, page_at-cells, cells-set, cell-set, length-cells}

pub place-number : (ns : List ℕ) (f : ℕ) → place_of ns f < length ns → get_or ns (place_of ns f) 0 ≡ f
place-number [] f h = absurd (omega (arith, h))
place-number (n ∷ ns) f h = by_first (nat_eq n f) refl h (λ low. place-number ns f low)
  where
    by_first : (b : Bool) → nat_eq n f ≡ b → cond b 0 (suc (place_of ns f)) < suc (length ns) → (place_of ns f < length ns → get_or ns (place_of ns f) 0 ≡ f)
        → get_or (n ∷ ns) (cond b 0 (suc (place_of ns f))) 0 ≡ f
    by_first true e low rest = eqb-true n f e
    by_first false e low rest = rest (omega (arith, low))

filled-place : (ns : List ℕ) (hs : List Bool) (f : ℕ) → is_filled ns hs f ≡ true → place_of ns f < length ns
filled-place [] hs f e = cc
filled-place (n ∷ ns) [] f e = cc
filled-place (n ∷ ns) (h ∷ hs) f e = by_first (nat_eq n f) e (λ rest. filled-place ns hs f rest)
  where
    by_first : (b : Bool) → cond b h (is_filled ns hs f) ≡ true → (is_filled ns hs f ≡ true → place_of ns f < length ns) → cond b 0 (suc (place_of ns f)) < suc (length ns)
    by_first true e rest = omega arith
    by_first false e rest = let low : place_of ns f < length ns = rest e in omega arith

-- a page that is here fills its place
pub filled-here : (ns : List ℕ) (hs : List Bool) (ps : List Page) (f : ℕ) → IsSome (page_among ns hs ps f) → is_filled ns hs f ≡ true
filled-here ns hs ps f h = by_filled (is_filled ns hs f) refl h
  where
    by_filled : (b : Bool) → is_filled ns hs f ≡ b → IsSome (slice_get ps (cond b (place_of ns f) (length ps))) → is_filled ns hs f ≡ true
    by_filled true e some = e
    by_filled false e some = let none : slice_get ps (length ps) ≡ None = slice_get_past ps (length ps) (omega arith) in let no_page = rw none at some in cc

pub place-here : (ns : List ℕ) (hs : List Bool) (ps : List Page) (f : ℕ) → IsSome (page_among ns hs ps f) → place_of ns f < length ns
place-here ns hs ps f here = filled-place ns hs f (filled-here ns hs ps f here)

pub write-place : (ns : List ℕ) (hs : List Bool) (ps : List Page) (vms : HeldSlots) (free : Option Ends) (is_reserved : Bool) (f at : ℕ) (b : Bool) (p : Page)
    → IsHeld ns hs ps → at ≡ place_of ns f → place_of ns f < length ns
    → IsWrite f (cond b (Some p) None) (record { numbers = ns; filled = hs; pages = ps; vms = vms; free = free; is_reserved = is_reserved })
    (record { numbers = ns; filled = set hs at b; pages = set ps at p; vms = vms; free = free; is_reserved = is_reserved })
write-place ns hs ps vms free is_reserved f at b p held is low = record {
  numbers = refl;
  vms = refl;
  free = refl;
  reserved = refl;
  pages = λ g. rw is (after g);
}
  where
    after : (g : ℕ) → page_among ns (set hs (place_of ns f) b) (set ps (place_of ns f) p) g ≡ cond (nat_eq g f) (cond b (Some p) None) (page_among ns hs ps g)
    after g =
        page_at-cells ns (set hs (place_of ns f) b) (set ps (place_of ns f) p) g (length-set hs (place_of ns f) b ∙ held.flags) (length-set ps (place_of ns f) p ∙ held.pages)
        ∙ ap (λ cs. cell_in ns cs g) (cells-set hs ps (place_of ns f) b p)
        ∙ cell-set ns (cells hs ps) (place_of ns f) g (cond b (Some p) None) held.rising (length-cells hs ps (held.flags ∙ sym held.pages) ∙ held.flags) low
        ∙ ap (λ n. cond (nat_eq g n) (cond b (Some p) None) (cell_in ns (cells hs ps) g)) (place-number ns f low)
        ∙ ap (cond (nat_eq g f) (cond b (Some p) None)) (sym (page_at-cells ns hs ps g held.flags held.pages))

-- the page at a place is that of the frame there
pub full-page : (h : Held) (i : ℕ) → IsRising h.numbers → i < length h.numbers → IsSome (page_at h (get_or h.numbers i 0)) → slice_get h.pages i ≡ page_at h (get_or h.numbers i 0)
full-page h i up low here = rw (filled-here h.numbers h.filled h.pages (get_or h.numbers i 0) here, place-found h.numbers i (get_or h.numbers i 0) up low refl) refl
