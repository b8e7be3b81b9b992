-- The bytes of pages, joined and cut, and the approval of their digest.
use Rattle.std.proofs.Common.{ℕ, zero, suc, ◌≡◌, ◌<◌, ◌≤◌, ◌+◌, ◌-◌, ◌*◌, inl, inr, min, All, Bool, true, false, cond, List, [], ◌∷◌, ◌++◌, length, take, map, get_or, refl, sym, ap, ap₂, subst, ◌∙◌, arith, eq-eqb, length-append}
use Rattle.std.specs.Prelude.{◌↔◌, IsTrue, Contains}
use Rattle.std.specs.List.{flat_map, list_any, range_with_len}
use Rattle.std.proofs.lemmas.Bool.{cases_lt}
use Rattle.std.proofs.lemmas.Grind.{flat_map-append}
use Rattle.std.proofs.lemmas.List.{take_all, append-nil, get_or-map, length-map}
use Rattle.std.proofs.lemmas.List.FromFn.{map-range_with_len_more}
use Rattle.std.proofs.lemmas.List.{map-id}
use Rattle.std.proofs.lemmas.List.Folds.{list_any_at, Any-from_list_any}
use Rattle.kc_model.specs.Refusals.{pages_of}
use Rattle.kc_model.specs.Effects.{same_bytes}
use Rattle.kc_model.proofs.Custody.Approved.{same_bytes-is}

-- the bytes of `n` places, joined
abbrev pub joined : (ℕ → List ℕ) → ℕ → ℕ → List ℕ
joined bytes a n = flat_map bytes (range_with_len a n)

pub range-more : (a n : ℕ) → range_with_len a (n + 1) ≡ range_with_len a n ++ (a + n) ∷ []
range-more a n = sym (map-id (range_with_len a (n + 1))) ∙ map-range_with_len_more (λ g. g) a n (a + n) refl ∙ ap (λ gs. gs ++ (a + n) ∷ []) (map-id (range_with_len a n))

pub joined-more : (bytes : ℕ → List ℕ) (a n : ℕ) → joined bytes a (n + 1) ≡ joined bytes a n ++ bytes (a + n)
joined-more bytes a n = ap (flat_map bytes) (range-more a n) ∙ flat_map-append bytes (range_with_len a n) ((a + n) ∷ []) ∙ ap (λ page. joined bytes a n ++ page) (append-nil _)

take-split : (n : ℕ) (xs ys : List ℕ) → take n (xs ++ ys) ≡ take n xs ++ take (n - length xs) ys
take-split n [] ys = let e : n - 0 ≡ n = omega arith in rw e (none n)
  where
    none : (k : ℕ) → take k ys ≡ take k [] ++ take k ys
    none zero = refl
    none (suc k) = refl
take-split zero (x ∷ xs) ys = let e : 0 - (length (x ∷ xs)) ≡ 0 = omega arith in rw e refl
take-split (suc n) (x ∷ xs) ys = let e : suc n - length (x ∷ xs) ≡ n - length xs = omega arith in rw e (ap (λ zs. x ∷ zs) (take-split n xs ys))

take-min : (n : ℕ) (page : List ℕ) → length page ≡ 4096 → take n page ≡ take (min n 4096) page
take-min n page whole = elim (cases_lt n 4096) [
  | inl lt ↦ let e : min n 4096 ≡ n = omega arith in rw e refl
  | inr le ↦ let e : min n 4096 ≡ 4096 = omega arith in let short : length page ≤ n = omega arith in let same : length page ≤ 4096 = omega arith in rw e (take_all n page short ∙ sym (take_all 4096 page same))
]

-- the used bytes of one more page
cut-more : (before page : List ℕ) (len : ℕ) → length page ≡ 4096 → take len (before ++ page) ≡ take len before ++ take (min (len - length before) 4096) page
cut-more before page len whole = take-split len before page ∙ ap (λ rest. take len before ++ rest) (take-min (len - length before) page whole)

-- what is fed of the page at the next place
pub fed-more : (bytes : ℕ → List ℕ) (len a g : ℕ) (page : List ℕ) (used : ℕ) → a ≤ g → bytes g ≡ page → length page ≡ 4096 → length (joined bytes a (g - a)) ≡ 4096 * (g - a) → used ≡ min (len - 4096 * (g - a)) 4096
    → take len (joined bytes a (g - a)) ++ take used page ≡ take len (joined bytes a (g + 1 - a))
fed-more bytes len a g page used from is whole before part =
    let next : g + 1 - a ≡ (g - a) + 1 = omega (arith, from) in
    let at : a + (g - a) ≡ g = omega (arith, from) in
    let more : joined bytes a (g + 1 - a) ≡ joined bytes a (g - a) ++ page = ap (joined bytes a) next ∙ joined-more bytes a (g - a) ∙ ap (λ k. joined bytes a (g - a) ++ bytes k) at ∙ ap (λ p. joined bytes a (g - a) ++ p) is in
    let cut = cut-more (joined bytes a (g - a)) page len whole in
    ap (λ k. take len (joined bytes a (g - a)) ++ take k page) (part ∙ ap (λ n. min (len - n) 4096) (sym before)) ∙ sym cut ∙ sym (ap (take len) more)

pub whole-more : (bytes : ℕ → List ℕ) (a g : ℕ) (page : List ℕ) → a ≤ g → bytes g ≡ page → length page ≡ 4096 → length (joined bytes a (g - a)) ≡ 4096 * (g - a) → length (joined bytes a (g + 1 - a)) ≡ 4096 * (g + 1 - a)
whole-more bytes a g page from is whole before =
    let next : g + 1 - a ≡ (g - a) + 1 = omega (arith, from) in
    let at : a + (g - a) ≡ g = omega (arith, from) in
    let more : joined bytes a (g + 1 - a) ≡ joined bytes a (g - a) ++ page = ap (joined bytes a) next ∙ joined-more bytes a (g - a) ∙ ap (λ k. joined bytes a (g - a) ++ bytes k) at ∙ ap (λ p. joined bytes a (g - a) ++ p) is in
    ap length more ∙ length-append (joined bytes a (g - a)) page ∙ (omega (arith, before, whole, from))

same_bytes-refl : (xs : List ℕ) → same_bytes xs xs ≡ true
same_bytes-refl [] = refl
same_bytes-refl (x ∷ xs) = ap (λ first. cond first (same_bytes xs xs) false) (eq-eqb x x refl) ∙ same_bytes-refl xs

-- a digest is approved if it is in the list
pub approved-is : (answer : Bool) (approved : List (List ℕ)) (digest : List ℕ) → IsTrue answer ↔ Contains approved digest → answer ≡ list_any (λ other. same_bytes other digest) approved
approved-is true approved digest tells =
    let found = tells.0 refl in
    sym (list_any_at (λ other. same_bytes other digest) approved found.0 digest found.1 (ap (λ other. same_bytes other digest) found.2 ∙ same_bytes-refl digest))
approved-is false approved digest tells = by_any (list_any (λ other. same_bytes other digest) approved) refl
  where
    by_any : (any : Bool) → list_any (λ other. same_bytes other digest) approved ≡ any → false ≡ any
    by_any false is = refl
    by_any true is =
        let found = Any-from_list_any (λ other. same_bytes other digest) approved is in
        let same = same_bytes-is found.1 digest found.4 in
        absurd (no (tells.1 (subst (λ other. Contains approved other) same (found.0, found.2, found.3))))
      where
        no : IsTrue false → ⊥
        no is = cc

-- the used bytes of an image's last page, after the pages before it
pub last-fed : (bytes : ℕ → List ℕ) (base len last used : ℕ) → 0 < len → last ≡ pages_of len - 1 → used ≡ len - last * 4096 → length (joined bytes base last) ≡ 4096 * last
    → length (bytes (base + last)) ≡ 4096 → joined bytes base last ++ take used (bytes (base + last)) ≡ take len (joined bytes base (pages_of len))
last-fed bytes base len last used some is part before whole =
    let pages : pages_of len ≡ last + 1 = omega (arith, is, some) in
    let ends : used ≡ min (len - length (joined bytes base last)) 4096 = rw before (omega (arith, part, is, some)) in
    let all : length (joined bytes base last) ≤ len = omega (arith, before, is, some) in
    ap₂ ◌++◌ (sym (take_all len (joined bytes base last) all)) (ap (λ n. take n (bytes (base + last))) ends)
    ∙ sym (cut-more (joined bytes base last) (bytes (base + last)) len whole)
    ∙ ap (take len) (sym (joined-more bytes base last) ∙ ap (joined bytes base) (sym pages))

-- a page of each image, by the image's number
pub page-at : {X Y : Type 0} (now : X → List ℕ) (pages : List X) (page : X) (bytes : Y → List ℕ) (images : List Y) (image : Y) (j : ℕ) → map now pages ≡ map bytes images
    → All (λ page. length (now page) ≡ 4096) pages → j < length images
    → (get_or (map now pages) j [] ≡ bytes (get_or images j image)) × (length (bytes (get_or images j image)) ≡ 4096)
page-at now pages page bytes images image j same whole low =
    let both = sym (length-map pages now) ∙ ap length same ∙ length-map images bytes in
    let at : get_or (map now pages) j [] ≡ bytes (get_or images j image) = ap (λ all. get_or all j []) same ∙ get_or-map bytes images j image [] low in
    (at, ap length (sym at ∙ get_or-map now pages j page [] (omega (arith, both, low))) ∙ whole j page (omega (arith, both, low)))
