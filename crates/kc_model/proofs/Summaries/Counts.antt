-- How many elements of a list pass a test.
use Rattle.std.proofs.Common.{ℕ, zero, suc, ◌≡◌, ◌<◌, ◌≤◌, ◌+◌, inl, inr, Bool, true, false, cond, ◌||◌, ◌-◌, subst, nat_eq, List, [], ◌∷◌, ◌++◌, map, filter, length, All, refl, sym, ap, ap₂, ◌∙◌, arith}
use Rattle.std.specs.List.{list_any, range_with_len, sum_by}
use Rattle.std.proofs.lemmas.Bool.{cases_eq, eq-eqb, ne_eqb, or_right}
use Rattle.std.proofs.lemmas.List.{length-append}
use Rattle.std.proofs.lemmas.List.Sums.{sum_by-cons}
use Rattle.std.proofs.Math.Bool.{or-false}
use Rattle.std.proofs.lemmas.List.Elements.{filter-append, All-head, All-tail, All-weaker}
use Rattle.kc_model.specs.Resources.{is_in}
use Rattle.kc_model.specs.Lives.{count_different}
use Rattle.kc_model.proofs.States.Counts.{one_if}
use Rattle.kc_model.proofs.Custody.Ordered.{in-range}

abbrev pub count : {X : Type 0} → (X → Bool) → List X → ℕ
count p xs = length (filter p xs)

length-cond : {X : Type 0} (b : Bool) (x : X) (xs : List X) → length (cond b (x ∷ xs) xs) ≡ one_if b + length xs
length-cond true x xs = omega arith
length-cond false x xs = omega arith

pub count-cons : {X : Type 0} (p : X → Bool) (x : X) (xs : List X) → count p (x ∷ xs) ≡ one_if (p x) + count p xs
count-cons p x xs = length-cond (p x) x (filter p xs)

pub count-append : {X : Type 0} (p : X → Bool) (xs ys : List X) → count p (xs ++ ys) ≡ count p xs + count p ys
count-append p xs ys = ap length (filter-append p xs ys) ∙ length-append (filter p xs) (filter p ys)

pub count-map : {X Y : Type 0} (p : Y → Bool) (make : X → Y) (xs : List X) → count p (map make xs) ≡ count (λ x. p (make x)) xs
count-map p make [] = refl
count-map p make (x ∷ xs) = count-cons p (make x) (map make xs) ∙ ap (λ n. one_if (p (make x)) + n) (count-map p make xs) ∙ sym (count-cons (λ y. p (make y)) x xs)

-- a test that no element of the list passes
pub count-none : {X : Type 0} (p : X → Bool) (xs : List X) → All (λ x. p x ≡ false) xs → count p xs ≡ 0
count-none p [] none = refl
count-none p (x ∷ xs) none = count-cons p x xs ∙ ap₂ (λ b n. one_if b + n) (All-head (λ x. p x ≡ false) x xs none) (count-none p xs (All-tail (λ x. p x ≡ false) x xs none))

-- a test after a filter that lets through every element that passes it
pub count-filter : {X : Type 0} (p q : X → Bool) → ((x : X) → q x ≡ false → p x ≡ false) → (xs : List X) → count p (filter q xs) ≡ count p xs
count-filter p q back [] = refl
count-filter p q back (x ∷ xs) = by_test (q x) refl (count-filter p q back xs)
  where
    by_test : (b : Bool) → q x ≡ b → count p (filter q xs) ≡ count p xs → count p (cond b (x ∷ filter q xs) (filter q xs)) ≡ count p (x ∷ xs)
    by_test true is rest = count-cons p x (filter q xs) ∙ ap (λ n. one_if (p x) + n) rest ∙ sym (count-cons p x xs)
    by_test false is rest = let first = count-cons p x xs ∙ ap (λ b. one_if b + count p xs) (back x is) in omega (arith, first, rest)

-- four tests that balance at each element balance over a list
pub count-balance : {X : Type 0} (a b c d : X → Bool) → ((x : X) → one_if (a x) + one_if (b x) ≡ one_if (c x) + one_if (d x)) → (xs : List X) → count a xs + count b xs ≡ count c xs + count d xs
count-balance a b c d same [] = refl
count-balance a b c d same (x ∷ xs) =
    let rest = count-balance a b c d same xs in
    let here = same x in
    omega (arith, rest, here, count-cons a x xs, count-cons b x xs, count-cons c x xs, count-cons d x xs)

-- tests that agree at each element
pub count-same : {X : Type 0} (p q : X → Bool) (xs : List X) → All (λ x. p x ≡ q x) xs → count p xs ≡ count q xs
count-same p q [] same = refl
count-same p q (x ∷ xs) same =
    count-cons p x xs ∙ ap₂ (λ b n. one_if b + n) (All-head (λ x. p x ≡ q x) x xs same) (count-same p q xs (All-tail (λ x. p x ≡ q x) x xs same)) ∙ sym (count-cons q x xs)

-- exactly one number of a range is this one
count-one : (y low n : ℕ) → low ≤ y → y < low + n → count (nat_eq y) (range_with_len low n) ≡ 1
count-one y low zero from below = absurd (omega (arith, from, below))
count-one y low (suc n) from below =
    let first = count-cons (nat_eq y) low (range_with_len (low + 1) n) in
    elim (cases_eq y low) [
      | inl here ↦
          let hit : one_if (nat_eq y low) ≡ 1 = ap one_if (eq-eqb y low here) in
          let others = count-none (nat_eq y) (range_with_len (low + 1) n) (All-weaker (λ x. (low + 1 ≤ x) × (x < (low + 1) + n)) (λ x. nat_eq y x ≡ false) (λ x is. ne_eqb y x (λ same. omega (arith, same, here, is.0))) (range_with_len (low + 1) n) (in-range (low + 1) n)) in
          omega (arith, first, hit, others)
      | inr other ↦
          let miss : one_if (nat_eq y low) ≡ 0 = ap one_if (ne_eqb y low other) in
          let rest = count-one y (low + 1) n (omega (arith, from, other)) (omega (arith, below)) in
          omega (arith, first, miss, rest)
    ]

pub is_in-both : (xs ys : List ℕ) (f : ℕ) → is_in (xs ++ ys) f ≡ (is_in xs f || is_in ys f)
is_in-both [] ys f = refl
is_in-both (x ∷ xs) ys f = by_first (nat_eq x f) (is_in-both xs ys f)
  where
    by_first : (b : Bool) → is_in (xs ++ ys) f ≡ (is_in xs f || is_in ys f) → (b || is_in (xs ++ ys) f) ≡ ((b || is_in xs f) || is_in ys f)
    by_first true rest = refl
    by_first false rest = rest

-- the different numbers of a list are those of a range that it holds
pub different : (xs : List ℕ) (n : ℕ) → All (λ x. x < n) xs → count_different xs ≡ count (is_in xs) (range_with_len 0 n)
different [] n low = sym (count-none (is_in []) (range_with_len 0 n) (λ i d lt. refl))
different (x ∷ xs) n low = by_rest (is_in xs x) refl (different xs n (All-tail (λ x. x < n) x xs low))
  where
    held : is_in xs x ≡ true → (f : ℕ) → (nat_eq x f || is_in xs f) ≡ is_in xs f
    held is f = elim (cases_eq x f) [
      | inl same ↦ let too : is_in xs f ≡ true = subst (λ k. is_in xs k ≡ true) same is in or_right (nat_eq x f) (is_in xs f) too ∙ sym too
      | inr other ↦ ap (λ b. b || is_in xs f) (ne_eqb x f other)
    ]

    apart : is_in xs x ≡ false → (f : ℕ) → one_if (nat_eq x f || is_in xs f) + 0 ≡ one_if (nat_eq x f) + one_if (is_in xs f)
    apart not f = elim (cases_eq x f) [
      | inl same ↦ let none : is_in xs f ≡ false = subst (λ k. is_in xs k ≡ false) same not in let hit = eq-eqb x f same in rw (none, hit) refl
      | inr other ↦ let miss = ne_eqb x f other in rw miss (omega arith)
    ]

    by_rest : (b : Bool) → is_in xs x ≡ b → count_different xs ≡ count (is_in xs) (range_with_len 0 n) → cond b (count_different xs) (count_different xs + 1) ≡ count (is_in (x ∷ xs)) (range_with_len 0 n)
    by_rest true is rest = rest ∙ sym (count-same (is_in (x ∷ xs)) (is_in xs) (range_with_len 0 n) (λ i d lt. held is _))
    by_rest false is rest =
        let below = All-head (λ x. x < n) x xs low in
        let one = count-one x 0 n (omega arith) (omega (arith, below)) in
        let none = count-none (λ (f : ℕ). false) (range_with_len 0 n) (λ i d lt. refl) in
        let both = count-balance (is_in (x ∷ xs)) (λ f. false) (nat_eq x) (is_in xs) (apart is) (range_with_len 0 n) in
        omega (arith, rest, one, none, both)

-- a sum over the places from i up to but not including j
abbrev pub sum_from : (ℕ → ℕ) → ℕ → ℕ → ℕ
sum_from F i j = sum_by F (range_with_len i (j - i))

pub sum-none : (F : ℕ → ℕ) (i : ℕ) → sum_from F i i ≡ 0
sum-none F i = let none : i - i ≡ 0 = omega arith in rw none refl

pub sum-more : (F : ℕ → ℕ) (i j : ℕ) → suc i ≤ j → sum_from F i j ≡ F i + sum_from F (suc i) j
sum-more F i j lt =
    let some : j - i ≡ suc (j - suc i) = omega (arith, lt) in
    let next : i + 1 ≡ suc i = omega arith in
    ap (λ n. sum_by F (range_with_len i n)) some
    ∙ sum_by-cons F i (range_with_len (i + 1) (j - suc i))
    ∙ ap (λ n. F i + sum_by F (range_with_len n (j - suc i))) next

-- whether a place from i to j passes
abbrev pub any_to : (ℕ → Bool) → ℕ → ℕ → Bool
any_to p i j = list_any p (range_with_len i (j + 1 - i))

pub any-one : (p : ℕ → Bool) (i : ℕ) → any_to p i i ≡ p i
any-one p i = let one : i + 1 - i ≡ 1 = omega arith in ap (λ n. list_any p (range_with_len i n)) one ∙ or-false (p i)

pub any-more : (p : ℕ → Bool) (i j : ℕ) → suc i ≤ j → any_to p i j ≡ (p i || any_to p (suc i) j)
any-more p i j lt =
    let some : j + 1 - i ≡ suc (j + 1 - suc i) = omega (arith, lt) in
    let next : i + 1 ≡ suc i = omega arith in
    ap (λ n. list_any p (range_with_len i n)) some ∙ ap (λ n. p i || list_any p (range_with_len n (j + 1 - suc i))) next
