-- The links and the ends of a list of consecutive numbers.
use Rattle.std.proofs.Common.{ℕ, zero, suc, ◌≡◌, ◌<◌, ◌≤◌, ◌+◌, ◌-◌, inl, inr, cond, nat_lt, Option, Some, None, eq-eqb, refl, ap, ◌∙◌, arith}
use Rattle.std.specs.List.{range_with_len}
use Rattle.std.proofs.lemmas.Bool.{cases_eq, lt-ltb, le-ltb, ne_eqb}
use Rattle.std.proofs.lemmas.Bool.Decides.{nat_tests}
use Rattle.std.proofs.lemmas.List.FromFn.{length-range_with_len}
use Rattle.kc_model.specs.Links.{first_of, link_after}
use Rattle.kc_model.specs.Linked.{last_of, ends_of}

last-range : (a n : ℕ) (before : Option ℕ) → last_of before (range_with_len a (suc n)) ≡ Some (a + n)
last-range a zero before = let e : a ≡ a + 0 = omega arith in ap Some e
last-range a (suc n) before = let e : a + 1 + n ≡ a + suc n = omega arith in last-range (a + 1) n (Some a) ∙ ap Some e

pub ends-range : (a n : ℕ) → ends_of (range_with_len a (suc n)) ≡ record { head = Some a; tail = Some (a + n); count = suc n }
ends-range a n = λ i. record { head = Some a; tail = last-range a n None i; count = length-range_with_len a (suc n) i }

-- each has the one before it and the one after it
pub link-range : (before : Option ℕ) (a n f : ℕ) → a ≤ f → f < a + n
    → link_after before (range_with_len a n) f ≡ record { prev = cond (nat_lt a f) (Some (f - 1)) before; next = cond (nat_lt (f + 1) (a + n)) (Some (f + 1)) None }
link-range before a zero f from low = absurd (omega (arith, from, low))
link-range before a (suc n) f from low = elim (cases_eq a f) [
  | inl same ↦ rw (← same, eq-eqb a a refl, le-ltb a a (omega arith)) (λ i. record { prev = before; next = next n i })
  | inr other ↦ rw (ne_eqb a f other) (link-range (Some a) (a + 1) n f (omega (arith, from, other)) (omega (arith, low)) ∙ (λ i. record { prev = prev other i; next = cond (nat_lt (f + 1) (end i)) (Some (f + 1)) None }))
]
  where
    next : (n : ℕ) → first_of (range_with_len (a + 1) n) ≡ cond (nat_lt (a + 1) (a + suc n)) (Some (a + 1)) None
    next zero = rw (le-ltb (a + 1) (a + 1) (omega arith)) refl
    next (suc n) = rw (lt-ltb (a + 1) (a + suc (suc n)) (omega arith)) refl

    prev : (a ≡ f → ⊥) → cond (nat_lt (a + 1) f) (Some (f - 1)) (Some a) ≡ cond (nat_lt a f) (Some (f - 1)) before
    prev other = grind (arith, nat_tests)

    end : a + 1 + n ≡ a + suc n
    end = omega arith
