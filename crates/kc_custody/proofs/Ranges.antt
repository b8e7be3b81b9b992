-- What passes a test in a range of numbers passes it in any rising list that has all that pass.
use Rattle.std.proofs.Common.{ℕ, zero, suc, ◌≡◌, ◌<◌, ◌≤◌, ◌+◌, inl, inr, Bool, true, false, nat_eq, List, [], ◌∷◌, filter, refl, sym, arith}
use Rattle.std.specs.List.{range_with_len}
use Rattle.std.proofs.lemmas.Bool.{cases_eq, cases_Bool, or_cases, or_from, ne_eqb, eqb-true}
use Rattle.kc_model.specs.Resources.{is_in}
use Rattle.kc_custody.proofs.Ordered.{IsRisingFrom}

-- a list that rises from a number has none below it
pub absent-below : (low : ℕ) (xs : List ℕ) (f : ℕ) → IsRisingFrom low xs → f < low → is_in xs f ≡ false
absent-below low [] f rising below = refl
absent-below low (x ∷ xs) f rising below =
    let first = rising.0 in
    or_from (nat_eq x f) (is_in xs f) (ne_eqb x f (λ same. omega (arith, same, first, below))) (absent-below (x + 1) xs f rising.1 (omega (arith, first, below)))

pub lower : (low high : ℕ) (xs : List ℕ) → low ≤ high → IsRisingFrom high xs → IsRisingFrom low xs
lower low high [] le rising = tt
lower low high (x ∷ xs) le rising = let first = rising.0 in (omega (arith, first, le), rising.1)

-- nothing of a list passes that is beyond all that pass
none-pass : (p : ℕ → Bool) (low : ℕ) (xs : List ℕ) → IsRisingFrom low xs → ((f : ℕ) → low ≤ f → p f ≡ false) → filter p xs ≡ []
none-pass p low [] rising none = refl
none-pass p low (x ∷ xs) rising none =
    let first = rising.0 in
    let fails : p x ≡ false = none x first in
    rw fails (none-pass p (x + 1) xs rising.1 (λ f le. none f (omega (arith, first, le))))

-- the test says no of a number that the list has not
fails-at : (p : ℕ → Bool) (f : ℕ) (held : Bool) → held ≡ false → (p f ≡ true → held ≡ true) → p f ≡ false
fails-at p f held absent has = elim (cases_Bool (p f)) [
  | inl passes ↦ let yes = has passes in cc
  | inr fails ↦ fails
]

-- a number above the first of a list, and in the list, is after it
in-rest : (x : ℕ) (xs : List ℕ) (f : ℕ) → x < f → is_in (x ∷ xs) f ≡ true → is_in xs f ≡ true
in-rest x xs f above held = elim (or_cases (nat_eq x f) (is_in xs f) held) [
  | inl here ↦ let is = eqb-true x f here in absurd (omega (arith, is, above))
  | inr there ↦ there
]

-- the list has all that pass from a number on, and they are below another
abbrev HasAll : (ℕ → Bool) → ℕ → ℕ → List ℕ → Type 0
HasAll p low high xs = (f : ℕ) → low ≤ f → p f ≡ true → (f < high) × (is_in xs f ≡ true)

has-later : (p : ℕ → Bool) (low high high2 : ℕ) (xs : List ℕ) → high ≡ high2 → HasAll p low high xs → HasAll p (low + 1) high2 xs
has-later p low high high2 xs same has f le passes = let h = has f (omega (arith, le)) passes in let lt = h.0 in (omega (arith, lt, same), h.1)

pub filter-range : (p : ℕ → Bool) (low n : ℕ) (xs : List ℕ) → IsRisingFrom low xs → HasAll p low (low + n) xs → filter p (range_with_len low n) ≡ filter p xs
filter-range p low zero xs rising has = sym (none-pass p low xs rising (λ f le. elim (cases_Bool (p f)) [
  | inl passes ↦ let past = (has f le passes).0 in absurd (omega (arith, past, le))
  | inr fails ↦ fails
]))
filter-range p low (suc n) [] rising has =
    let fails : p low ≡ false = fails-at p low false refl (λ passes. (has low (omega arith) passes).1) in
    rw fails (filter-range p (low + 1) n [] tt (has-later p low (low + suc n) (low + 1 + n) [] (omega arith) has))
filter-range p low (suc n) (x ∷ xs) rising has = elim (cases_eq x low) [
  | inl same ↦
      let up : IsRisingFrom (low + 1) xs = lower (low + 1) (x + 1) xs (omega (arith, same)) rising.1 in
      let rest : filter p (range_with_len (low + 1) n) ≡ filter p xs = filter-range p (low + 1) n xs up (λ f le passes.
      let h = has f (omega (arith, le)) passes in
      let lt = h.0 in
      (omega (arith, lt), in-rest x xs f (omega (arith, le, same)) h.1)) in
      rw (same, rest) refl
  | inr differs ↦
      let first = rising.0 in
      let above : low < x = omega (arith, first, differs) in
      let absent : is_in (x ∷ xs) low ≡ false = absent-below x (x ∷ xs) low (omega arith, rising.1) above in
      let fails : p low ≡ false = fails-at p low (is_in (x ∷ xs) low) absent (λ passes. (has low (omega arith) passes).1) in
      rw fails (filter-range p (low + 1) n (x ∷ xs) (omega (arith, above), rising.1) (has-later p low (low + suc n) (low + 1 + n) (x ∷ xs) (omega arith) has))
]
