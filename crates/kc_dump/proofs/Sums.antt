-- Sums over the numbers below one.
use Rattle.std.proofs.Common.{ℕ, zero, suc, ◌≡◌, ◌≢◌, ◌<◌, ◌≤◌, ◌+◌, inl, inr, cond, nat_eq, List, [], ◌∷◌, length, eq-eqb, refl, sym, ap, ◌∙◌, arith}
use Rattle.std.proofs.lemmas.Bool.{cases_lt, ne_eqb}
use Rattle.kc_model.specs.Lawful.{times_in}
use Rattle.kc_links.proofs.Times.{times-same}
use Rattle.kc_dump.specs.Sums.{sum_below}

sum-plus : (a b : ℕ → ℕ) (n : ℕ) → sum_below (λ f. a f + b f) n ≡ sum_below a n + sum_below b n
sum-plus a b zero = refl
sum-plus a b (suc n) = let rest = sum-plus a b n in omega (arith, rest)

sum-none : (a : ℕ → ℕ) (n : ℕ) → ((f : ℕ) → f < n → a f ≡ 0) → sum_below a n ≡ 0
sum-none a zero none = refl
sum-none a (suc n) none =
    let rest = sum-none a n (λ f low. none f (omega (arith, low))) in
    let last = none n (omega arith) in omega (arith, rest, last)

sum-one : (a : ℕ → ℕ) (n x : ℕ) → x < n → a x ≡ 1 → ((f : ℕ) → f ≢ x → a f ≡ 0) → sum_below a n ≡ 1
sum-one a zero x low one others = absurd (omega (arith, low))
sum-one a (suc n) x low one others = elim (cases_lt x n) [
  | inl before ↦
      let rest = sum-one a n x before one others in
      let last = others n (λ e. omega (arith, e, before)) in omega (arith, rest, last)
  | inr past ↦
      let same : n ≡ x = omega (arith, past, low) in
      let rest = sum-none a n (λ f l. others f (λ e. omega (arith, l, e, same))) in
      let last : a n ≡ 1 = ap a same ∙ one in omega (arith, rest, last)
]

pub sum-same : (a b : ℕ → ℕ) (n : ℕ) → ((f : ℕ) → a f ≡ b f) → sum_below a n ≡ sum_below b n
sum-same a b zero same = refl
sum-same a b (suc n) same = let rest = sum-same a b n same in let last = same n in omega (arith, rest, last)

sum-most : (a b : ℕ → ℕ) (n : ℕ) → ((f : ℕ) → a f ≤ b f) → sum_below a n ≤ sum_below b n
sum-most a b zero most = omega arith
sum-most a b (suc n) most = let rest = sum-most a b n most in let last = most n in omega (arith, rest, last)

pub sum-ones : (a : ℕ → ℕ) (n : ℕ) → ((f : ℕ) → a f ≤ 1) → sum_below a n ≤ n
sum-ones a zero one = omega arith
sum-ones a (suc n) one = let rest = sum-ones a n one in let last = one n in omega (arith, rest, last)

-- if the first function is nowhere larger, and its sum is no less, the two are equal at each number
pub sum-tight : (a b : ℕ → ℕ) (n : ℕ) → ((f : ℕ) → a f ≤ b f) → sum_below b n ≤ sum_below a n → (f : ℕ) → f < n → a f ≡ b f
sum-tight a b zero most tight f low = absurd (omega (arith, low))
sum-tight a b (suc n) most tight f low =
    let rest = sum-most a b n most in
    let last = most n in
    elim (cases_lt f n) [
      | inl before ↦ sum-tight a b n most (omega (arith, rest, last, tight)) f before
      | inr past ↦
          let here : f ≡ n = omega (arith, past, low) in
          let same : a n ≡ b n = omega (arith, rest, last, tight) in ap a here ∙ same ∙ ap b (sym here)
    ]

-- the length of a list is the sum of how often each number is in it
pub sum-times : (fs : List ℕ) (n : ℕ) → ((f : ℕ) → 0 < times_in fs f → f < n) → sum_below (times_in fs) n ≡ length fs
sum-times [] n low = sum-none (times_in []) n (λ f l. refl)
sum-times (x ∷ xs) n low =
    let rest = sum-times xs n (λ f some. low f (omega (arith, some))) in
    let twice = times-same x xs in
    let one = sum-one (λ f. cond (nat_eq x f) 1 0) n x (low x (omega (arith, twice))) (rw (eq-eqb x x refl) refl) (λ f other. rw (ne_eqb x f (λ e. other (sym e))) refl) in
    let both = sum-plus (λ f. cond (nat_eq x f) 1 0) (times_in xs) n in
    omega (arith, rest, one, both)
