-- When principals are near each other.
use Rattle.std.proofs.Common.{◌≡◌, ℕ, true, ◌||◌, refl, inl, inr}
use Rattle.std.specs.Prelude.{◌⊎◌, eqb}
use Rattle.std.proofs.lemmas.Bool.{eq-eqb, eqb-true, or_cases, or_left}
use Rattle.kc_footprints.specs.Planner.{Reached, is_near, is_related}

module _ (h : Reached) (p q : ℕ) where
  pub near_same : p ≡ q → is_near h p q ≡ true
  unfolding is_near
  near_same same = or_left (eqb p q) (is_related h p q || is_related h q p) (eq-eqb p q same)

  pub near_is : is_near h p q ≡ (eqb p q || (is_related h p q || is_related h q p))
  unfolding is_near
  near_is = refl

  pub near_cases : is_near h p q ≡ true → (p ≡ q) ⊎ ((is_related h p q ≡ true) ⊎ (is_related h q p ≡ true))
  unfolding is_near
  near_cases near = elim (or_cases (eqb p q) (is_related h p q || is_related h q p) near) [ inl same ↦ inl (eqb-true p q same) | inr is ↦ inr (or_cases (is_related h p q) (is_related h q p) is) ]
