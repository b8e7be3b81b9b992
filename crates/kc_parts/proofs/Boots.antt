-- The parts of the boot state, one by one and all together.
use Rattle.std.proofs.Common.{ℕ, zero, suc, ◌≡◌, ◌<◌, ◌≤◌, ◌+◌, true, false, inl, inr, cond, eq-eqb, [], ◌∷◌, ◌++◌, List, length, get_or, map, replicate, Option, None, refl, sym, ap, ◌∙◌, arith}
use Rattle.std.specs.List.{range_with_len, slice_get}
use Rattle.std.proofs.lemmas.Bool.{cases_lt, ne_eqb}
use Rattle.std.proofs.lemmas.List.{map-id}
use Rattle.std.proofs.lemmas.List.FromFn.{map-range_with_len_more, get_or-range_with_len, length-range_with_len}
use Rattle.std.proofs.lemmas.Option.{slice_get_past}
use Rattle.kc_vms.specs.Vm.{VmSlot}
use Rattle.kc_parts.specs.Parts.{Held, AreHeldSlots, IsRising, place_of, is_filled, cell_in, page_at}

pub numbers-more : (n : ℕ) → range_with_len 0 (n + 1) ≡ range_with_len 0 n ++ n ∷ []
numbers-more n = sym (map-id (range_with_len 0 (n + 1))) ∙ map-range_with_len_more (λ f. f) 0 n n (omega arith) ∙ ap (λ fs. fs ++ n ∷ []) (map-id (range_with_len 0 n))

pub pages-more : {X : Type 0} (at : ℕ → X) (n : ℕ) → map at (range_with_len 0 (n + 1)) ≡ map at (range_with_len 0 n) ++ at n ∷ []
pages-more at n = map-range_with_len_more at 0 n n (omega arith)

-- if all numbers from one on have places, each is at its distance from it
place-range : (a n k : ℕ) → k < n → place_of (range_with_len a n) (a + k) ≡ k
place-range a zero k lt = absurd (omega (arith, lt))
place-range a (suc n) zero lt = rw (eq-eqb a (a + 0) (omega arith)) refl
place-range a (suc n) (suc k) lt =
    let e : a + suc k ≡ (a + 1) + k = omega arith in
    rw (ne_eqb a (a + suc k) (λ same. omega (arith, same))) (ap suc (ap (place_of (range_with_len (a + 1) n)) e ∙ place-range (a + 1) n k (omega (arith, lt))))

-- a number past the end has no place
place-past : (a n f : ℕ) → a + n ≤ f → place_of (range_with_len a n) f ≡ n
place-past a zero f le = refl
place-past a (suc n) f le = rw (ne_eqb a f (λ same. omega (arith, le, same))) (ap suc (place-past (a + 1) n f (omega (arith, le))))

-- the place of a number if all numbers below a limit have places
pub place-below : (n f k : ℕ) → (f < n → k ≡ f) → (n ≤ f → k ≡ n) → k ≡ place_of (range_with_len 0 n) f
place-below n f k here past = elim (cases_lt f n) [
  | inl low ↦ let e : 0 + f ≡ f = omega arith in here low ∙ sym (place-range 0 n f low) ∙ ap (place_of (range_with_len 0 n)) e
  | inr high ↦ past high ∙ sym (place-past 0 n f (omega (arith, high)))
]

filled-range : (a n k : ℕ) → k < n → is_filled (range_with_len a n) (replicate n true) (a + k) ≡ true
filled-range a zero k lt = absurd (omega (arith, lt))
filled-range a (suc n) zero lt = rw (eq-eqb a (a + 0) (omega arith)) refl
filled-range a (suc n) (suc k) lt =
    let e : a + suc k ≡ (a + 1) + k = omega arith in
    rw (ne_eqb a (a + suc k) (λ same. omega (arith, same))) (ap (is_filled (range_with_len (a + 1) n) (replicate n true)) e ∙ filled-range (a + 1) n k (omega (arith, lt)))

unfilled-range : (a n f : ℕ) → a + n ≤ f → is_filled (range_with_len a n) (replicate n true) f ≡ false
unfilled-range a zero f le = refl
unfilled-range a (suc n) f le = rw (ne_eqb a f (λ same. omega (arith, le, same))) (unfilled-range (a + 1) n f (omega (arith, le)))

-- the page of a frame if all frames have places and are here
pub page-whole : (h : Held) (n f : ℕ) → h.numbers ≡ range_with_len 0 n → h.filled ≡ replicate n true → f < n → page_at h f ≡ slice_get h.pages f
page-whole h n f numbers here lt =
    let e : 0 + f ≡ f = omega arith in
    let filled : is_filled h.numbers h.filled f ≡ true = ap (λ ns. is_filled ns h.filled f) numbers ∙ ap (λ hs. is_filled (range_with_len 0 n) hs f) here ∙ ap (is_filled (range_with_len 0 n) (replicate n true)) (sym e) ∙ filled-range 0 n f lt in
    let place : place_of h.numbers f ≡ f = ap (λ ns. place_of ns f) numbers ∙ ap (place_of (range_with_len 0 n)) (sym e) ∙ place-range 0 n f lt in
    ap (slice_get h.pages) (ap (λ b. cond b (place_of h.numbers f) (length h.pages)) filled ∙ place)

pub page-past : (h : Held) (n f : ℕ) → h.numbers ≡ range_with_len 0 n → h.filled ≡ replicate n true → n ≤ f → page_at h f ≡ None
page-past h n f numbers here le =
    let empty : is_filled h.numbers h.filled f ≡ false = ap (λ ns. is_filled ns h.filled f) numbers ∙ ap (λ hs. is_filled (range_with_len 0 n) hs f) here ∙ unfilled-range 0 n f (omega (arith, le)) in
    ap (slice_get h.pages) (ap (λ b. cond b (place_of h.numbers f) (length h.pages)) empty) ∙ slice_get_past h.pages (length h.pages) (omega arith)

pub rising-range : (n : ℕ) → IsRising (range_with_len 0 n)
rising-range n i j less within =
    let count = length-range_with_len 0 n in
    let low : i < n = omega (arith, less, within, count) in
    let high : j < n = omega (arith, within, count) in
    let a = get_or-range_with_len 0 n i 0 low in
    let b = get_or-range_with_len 0 n j 0 high in
    omega (arith, less, a, b)

cell-range-at : {X : Type 0} (a n k : ℕ) (cs : List (Option X)) → length cs ≡ n → cell_in (range_with_len a n) cs (a + k) ≡ get_or cs k None
cell-range-at a zero k [] e = refl
cell-range-at a zero k (c ∷ cs) e = absurd (omega (arith, e))
cell-range-at a (suc n) k [] e = absurd (omega (arith, e))
cell-range-at a (suc n) zero (c ∷ cs) e = rw (eq-eqb (a + 0) a (omega arith)) refl
cell-range-at a (suc n) (suc k) (c ∷ cs) e =
    let s : a + suc k ≡ (a + 1) + k = omega arith in
    rw (ne_eqb (a + suc k) a (λ same. omega (arith, same))) (ap (cell_in (range_with_len (a + 1) n) cs) s ∙ cell-range-at (a + 1) n k cs (omega (arith, e)))

-- the element for a number if all numbers have places
pub cell-at : {X : Type 0} (cs : List (Option X)) (k : ℕ) → cell_in (range_with_len 0 (length cs)) cs k ≡ get_or cs k None
cell-at cs k = let e : k ≡ 0 + k = omega arith in ap (cell_in (range_with_len 0 (length cs)) cs) e ∙ cell-range-at 0 (length cs) k cs refl

-- a place for each number
pub held-whole : (cs : List (Option VmSlot)) → AreHeldSlots (range_with_len 0 (length cs)) cs
held-whole cs = record { rising = rising-range (length cs); places = sym (length-range_with_len 0 (length cs)) }
