-- Lists of chunks, and the pages of all of them.
use Rattle.std.proofs.Common.{ℕ, zero, suc, ◌≡◌, ◌<◌, ◌≤◌, ◌+◌, ◌-◌, ◌/◌, ◌%◌, inl, inr, List, [], ◌∷◌, ◌++◌, length, get_or, set, map, refl, sym, ap, subst, ◌∙◌, arith, append-nil, length-append, length-set}
use Rattle.std.specs.Prelude.{slice_get, None}
use Rattle.std.specs.List.{range_with_len}
use Rattle.std.proofs.lemmas.Bool.{cases_lt}
use Rattle.std.proofs.lemmas.Grind.{flat_map-append}
use Rattle.std.proofs.lemmas.List.{get_or_past, length-map, set-append_left, set-append_right}
use Rattle.std.proofs.lemmas.Option.{slice_get_past}
use Rattle.std.proofs.Math.Seq.{get_or-append_seam}
use Rattle.kc_page.specs.declared.page.Page.{Page}
use Rattle.kc_parts.specs.Chunks.{all_pages, AreChunks}

-- all chunks have as many pages as a chunk can have
abbrev pub AreFull : List (List Page) → Type 0
AreFull chunks = (k : ℕ) → k < length chunks → length (get_or chunks k []) ≡ 16384

pub no-chunks : AreFull []
no-chunks k low = absurd (omega (arith, low))

pub later : (c : List Page) (cs : List (List Page)) → AreChunks (c ∷ cs) → AreChunks cs
later c cs are = record {
  some = λ k low. are.some (suc k) (omega (arith, low));
  full = λ k low. are.full (suc k) (omega (arith, low));
  small = λ k. are.small (suc k);
}

slice_get-left : (xs ys : List Page) (i : ℕ) → i < length xs → slice_get (xs ++ ys) i ≡ slice_get xs i
slice_get-left [] ys i low = absurd (omega (arith, low))
slice_get-left (x ∷ xs) ys zero low = refl
slice_get-left (x ∷ xs) ys (suc i) low = slice_get-left xs ys i (omega (arith, low))

slice_get-right : (xs ys : List Page) (n i : ℕ) → length xs ≡ n → n ≤ i → slice_get (xs ++ ys) i ≡ slice_get ys (i - n)
slice_get-right [] ys zero i long past = ap (slice_get ys) (omega arith)
slice_get-right [] ys (suc n) i long past = absurd (omega (arith, long))
slice_get-right (x ∷ xs) ys zero i long past = absurd (omega (arith, long))
slice_get-right (x ∷ xs) ys (suc n) zero long past = absurd (omega (arith, past))
slice_get-right (x ∷ xs) ys (suc n) (suc i) long past =
    let same : suc i - suc n ≡ i - n = omega arith in
    slice_get-right xs ys n i (omega (arith, long)) (omega (arith, past)) ∙ ap (slice_get ys) (sym same)

-- a page is found in the chunk of its place
pub page-in : (cs : List (List Page)) (at : ℕ) → AreChunks cs → slice_get (all_pages cs) at ≡ slice_get (get_or cs (at / 16384) []) (at % 16384)
page-in [] at are = refl
page-in (c ∷ []) at are = elim (cases_lt at 16384) [
  | inl low ↦
      let first : at / 16384 ≡ 0 = omega (arith, low) in
      let same : at % 16384 ≡ at = omega (arith, low) in
      rw (first, same) (ap (λ ps. slice_get ps at) (append-nil c))
  | inr past ↦
      let second : at / 16384 ≡ suc ((at - 16384) / 16384) = omega (arith, past) in
      let small : length c ≤ 16384 = are.small 0 in
      rw second (ap (λ ps. slice_get ps at) (append-nil c) ∙ slice_get_past c at (omega (arith, small, past)))
]
page-in (c ∷ d ∷ cs) at are =
    let full : length c ≡ 16384 = are.full 0 (omega arith) in
    elim (cases_lt at 16384) [
      | inl low ↦
          let first : at / 16384 ≡ 0 = omega (arith, low) in
          let same : at % 16384 ≡ at = omega (arith, low) in
          rw (first, same) (slice_get-left c (all_pages (d ∷ cs)) at (omega (arith, low, full)))
      | inr past ↦
          let second : at / 16384 ≡ suc ((at - 16384) / 16384) = omega (arith, past) in
          let same : at % 16384 ≡ (at - 16384) % 16384 = omega (arith, past) in
          rw (second, same) (slice_get-right c (all_pages (d ∷ cs)) 16384 at full past ∙ page-in (d ∷ cs) (at - 16384) (later c (d ∷ cs) are))
    ]

-- a page past the chunks is nowhere
pub page-past : (cs : List (List Page)) (at : ℕ) → AreChunks cs → length cs ≤ at / 16384 → slice_get (all_pages cs) at ≡ None
page-past cs at are past = page-in cs at are ∙ ap (λ c. slice_get c (at % 16384)) (get_or_past cs (at / 16384) [] past)

-- a page that is changed is changed in the chunk of its place
pub page-set : (cs : List (List Page)) (at : ℕ) (w : Page) → AreChunks cs → at / 16384 < length cs → all_pages (set cs (at / 16384) (set (get_or cs (at / 16384) []) (at % 16384) w)) ≡ set (all_pages cs) at w
page-set [] at w are low = absurd (omega (arith, low))
page-set (c ∷ []) at w are within =
    let low : at < 16384 = omega (arith, within) in
    let first : at / 16384 ≡ 0 = omega (arith, low) in
    let same : at % 16384 ≡ at = omega (arith, low) in
    rw (first, same) (append-nil (set c at w) ∙ ap (λ ps. set ps at w) (sym (append-nil c)))
page-set (c ∷ d ∷ cs) at w are within =
    let full : length c ≡ 16384 = are.full 0 (omega arith) in
    elim (cases_lt at 16384) [
      | inl low ↦
          let first : at / 16384 ≡ 0 = omega (arith, low) in
          let same : at % 16384 ≡ at = omega (arith, low) in
          rw (first, same) (sym (set-append_left c (all_pages (d ∷ cs)) at w (omega (arith, low, full))))
      | inr past ↦
          let second : at / 16384 ≡ suc ((at - 16384) / 16384) = omega (arith, past) in
          let same : at % 16384 ≡ (at - 16384) % 16384 = omega (arith, past) in
          let rest : (at - 16384) / 16384 < length (d ∷ cs) = omega (arith, within, second) in
          rw (second, same) (ap (λ ps. c ++ ps) (page-set (d ∷ cs) (at - 16384) w (later c (d ∷ cs) are) rest) ∙ sym (set-append_right c (all_pages (d ∷ cs)) 16384 at w full past))
    ]

-- a chunk may become any other that is as long
pub same-long : (cs : List (List Page)) (k : ℕ) (c : List Page) → AreChunks cs → length c ≡ length (get_or cs k []) → AreChunks (set cs k c)
same-long cs k c are long = record {
  some = λ j low. subst (λ n. 0 < n) (sym (kept cs k c j long)) (are.some j (omega (arith, low, length-set cs k c)));
  full = λ j low. kept cs k c j long ∙ are.full j (omega (arith, low, length-set cs k c));
  small = λ j. subst (λ n. n ≤ 16384) (sym (kept cs k c j long)) (are.small j);
}
  where
    kept : (cs : List (List Page)) (k : ℕ) (c : List Page) (j : ℕ) → length c ≡ length (get_or cs k []) → length (get_or (set cs k c) j []) ≡ length (get_or cs j [])
    kept [] k c j long = refl
    kept (d ∷ cs) zero c zero long = long
    kept (d ∷ cs) zero c (suc j) long = refl
    kept (d ∷ cs) (suc k) c zero long = refl
    kept (d ∷ cs) (suc k) c (suc j) long = kept cs k c j long

-- full chunks, and a last one
pub full-then : (cs : List (List Page)) (c : List Page) → AreFull cs → 0 < length c → length c ≤ 16384 → AreChunks (cs ++ c ∷ [])
full-then [] c full some small = record {
  some = λ k low. by_first k low;
  full = λ k low. absurd (omega (arith, low));
  small = λ k. at_most k;
}
  where
    by_first : (k : ℕ) → k < 1 → 0 < length (get_or (c ∷ []) k [])
    by_first zero low = some
    by_first (suc k) low = absurd (omega (arith, low))

    at_most : (k : ℕ) → length (get_or (c ∷ []) k []) ≤ 16384
    at_most zero = small
    at_most (suc k) = omega arith
full-then (d ∷ cs) c full some small =
    let rest = full-then cs c (λ k low. full (suc k) (omega (arith, low))) some small in
    let first : length d ≡ 16384 = full 0 (omega arith) in
    record {
      some = λ k low. each_some rest first k low;
      full = λ k low. each_full rest first k low;
      small = λ k. each_small rest first k;
    }
  where
    each_some : AreChunks (cs ++ c ∷ []) → length d ≡ 16384 → (k : ℕ) → k < length (d ∷ (cs ++ c ∷ [])) → 0 < length (get_or (d ∷ (cs ++ c ∷ [])) k [])
    each_some rest first zero low = omega (arith, first)
    each_some rest first (suc k) low = rest.some k (omega (arith, low))

    each_full : AreChunks (cs ++ c ∷ []) → length d ≡ 16384 → (k : ℕ) → k + 1 < length (d ∷ (cs ++ c ∷ [])) → length (get_or (d ∷ (cs ++ c ∷ [])) k []) ≡ 16384
    each_full rest first zero low = first
    each_full rest first (suc k) low = rest.full k (omega (arith, low))

    each_small : AreChunks (cs ++ c ∷ []) → length d ≡ 16384 → (k : ℕ) → length (get_or (d ∷ (cs ++ c ∷ [])) k []) ≤ 16384
    each_small rest first zero = omega (arith, first)
    each_small rest first (suc k) = rest.small k

-- full chunks alone
pub all-full : (cs : List (List Page)) → AreFull cs → AreChunks cs
all-full cs full = record {
  some = λ k low. (let long = full k low in omega (arith, long));
  full = λ k low. full k (omega (arith, low));
  small = λ k. elim (cases_lt k (length cs)) [
    | inl low ↦ (let long = full k low in omega (arith, long))
    | inr past ↦ (let none = ap length (get_or_past cs k [] past) in omega (arith, none))
  ];
}

-- one full chunk more
pub one-more : (cs : List (List Page)) (c : List Page) → AreFull cs → length c ≡ 16384 → AreFull (cs ++ c ∷ [])
one-more [] c full long zero low = long
one-more [] c full long (suc k) low = absurd (omega (arith, low))
one-more (d ∷ cs) c full long zero low = full 0 (omega arith)
one-more (d ∷ cs) c full long (suc k) low = one-more cs c (λ j below. full (suc j) (omega (arith, below))) long k (omega (arith, low))

-- all but the last are full
pub before-last : (cs : List (List Page)) (c : List Page) → AreChunks (cs ++ c ∷ []) → AreFull cs
before-last [] c are k low = absurd (omega (arith, low))
before-last (d ∷ cs) c are zero low = are.full 0 (omega (arith, length-append cs (c ∷ [])))
before-last (d ∷ cs) c are (suc k) low = before-last cs c (later d (cs ++ c ∷ []) are) k (omega (arith, low))

-- and the last is not too long
pub last-small : (cs : List (List Page)) (c : List Page) → AreChunks (cs ++ c ∷ []) → length c ≤ 16384
last-small cs c are = subst (λ (d : List Page). length d ≤ 16384) (get_or-append_seam cs c [] []) (are.small (length cs))

pub more-pages : (cs : List (List Page)) (c : List Page) → all_pages (cs ++ c ∷ []) ≡ all_pages cs ++ c
more-pages cs c = flat_map-append (λ (chunk : List Page). chunk) cs (c ∷ []) ∙ ap (λ ps. all_pages cs ++ ps) (append-nil c)

-- a change of each page is one of the pages of each chunk
pub changed-in : (f : Page → Page) (cs : List (List Page)) → all_pages (map (map f) cs) ≡ map f (all_pages cs)
changed-in f [] = refl
changed-in f (c ∷ cs) = ap (λ ps. map f c ++ ps) (changed-in f cs) ∙ sym (map-append f c (all_pages cs))
  where
    map-append : (f : Page → Page) (xs ys : List Page) → map f (xs ++ ys) ≡ map f xs ++ map f ys
    map-append f [] ys = refl
    map-append f (x ∷ xs) ys = ap (λ zs. f x ∷ zs) (map-append f xs ys)

pub same-chunks : (f : Page → Page) (cs : List (List Page)) → AreChunks cs → AreChunks (map (map f) cs)
same-chunks f cs are = record {
  some = λ k low. subst (λ n. 0 < n) (sym (kept f cs k)) (are.some k (omega (arith, low, length-map cs (map f))));
  full = λ k low. kept f cs k ∙ are.full k (omega (arith, low, length-map cs (map f)));
  small = λ k. subst (λ n. n ≤ 16384) (sym (kept f cs k)) (are.small k);
}
  where
    kept : (f : Page → Page) (cs : List (List Page)) (k : ℕ) → length (get_or (map (map f) cs) k []) ≡ length (get_or cs k [])
    kept f [] k = refl
    kept f (c ∷ cs) zero = length-map c f
    kept f (c ∷ cs) (suc k) = kept f cs k

-- the pages of the frames up to one, and of those from it on
pub next-pages : (at : ℕ → Page) (n m : ℕ) → map at (range_with_len 0 n) ++ map at (range_with_len n m) ≡ map at (range_with_len 0 (n + m))
next-pages at n m =
    let same : 0 + n ≡ n = omega arith in
    ap (λ a. map at (range_with_len 0 n) ++ map at (range_with_len a m)) (sym same) ∙ joined at 0 n m
  where
    joined : (f : ℕ → Page) (first n m : ℕ) → map f (range_with_len first n) ++ map f (range_with_len (first + n) m) ≡ map f (range_with_len first (n + m))
    joined f first zero m =
        let same : first + 0 ≡ first = omega arith in
        let all : 0 + m ≡ m = omega arith in
        ap (λ a. map f (range_with_len a m)) same ∙ ap (λ n. map f (range_with_len first n)) (sym all)
    joined f first (suc n) m =
        let next : first + suc n ≡ (first + 1) + n = omega arith in
        let all : suc n + m ≡ suc (n + m) = omega arith in
        ap (λ ps. f first ∷ ps) (ap (λ a. map f (range_with_len (first + 1) n) ++ map f (range_with_len a m)) next ∙ joined f (first + 1) n m)
        ∙ ap (λ k. map f (range_with_len first k)) (sym all)
