-- How what calls name, what principals may have and what calls touch are related.
use Rattle.std.proofs.Common.{◌≡◌, ℕ, suc, ◌+◌, ◌<◌, ◌≤◌, Bool, true, ◌&&◌, ◌||◌, nat_lt, List, refl, sym, arith, inl, inr}
use Rattle.std.specs.Prelude.{◌⊎◌, eqb, Option, Some, None, IfSome}
use Rattle.std.proofs.Math.Nat.{eq-or-lt_of_le}
use Rattle.std.proofs.lemmas.Bool.Decides.{nat_tests}
use Rattle.std.proofs.lemmas.Bool.{and_from, and_parts, cases_Bool, eq-eqb, eqb-true, lt-ltb, or_cases, or_left, or_right}
use Rattle.kc_types.specs.declared.resource.Resource.TheVariants as resource
use Rattle.kc_model.specs.Resources.{Resource}
use Rattle.kc_footprints.specs.declared.names.Gain.{Gain}
use Rattle.kc_footprints.specs.declared.names.Gain.TheVariants.{Nothing, SlotTakesFrame, FreeTakesFrame, FreeTakesReach}
use Rattle.kc_footprints.specs.declared.names.Names.{Names}
use Rattle.kc_footprints.specs.Reach.{is_at, names_at, names_principal, reach_of, gains_by, may_have, has_part, touched_by, touches}
use Rattle.kc_footprints.proofs.Tracked.{Shape}

-- the principal that a call names, and what it may have
named_reach : (free : ℕ) (r : ℕ → ℕ → Bool) (slot : Option ℕ) (named : Bool) (p f : ℕ) → (is_at slot p || (named && eqb free p)) ≡ true → r p f ≡ true
    → (reach_of r slot f || (named && r free f)) ≡ true
named_reach free r None named p f h has = grind (arith, nat_tests, cases_Bool named)
named_reach free r (Some v) named p f h has = grind (arith, nat_tests, cases_Bool named, cases_Bool (r v f))

-- and conversely
reach_named : (free : ℕ) (r : ℕ → ℕ → Bool) (slot : Option ℕ) (named : Bool) (f : ℕ) → (reach_of r slot f || (named && r free f)) ≡ true
    → (p : ℕ) × ((is_at slot p || (named && eqb free p)) ≡ true) × (r p f ≡ true)
reach_named free r None named f h = (free, grind (arith, nat_tests, cases_Bool named), grind (arith, cases_Bool named))
reach_named free r (Some v) named f h =
    elim (or_cases (r v f) (named && r free f) h) [
      | inl is ↦ (v, or_left (eqb v v) (named && eqb free v) (eq-eqb v v refl), is)
      | inr is ↦ (free, grind (arith, nat_tests, cases_Bool named), (and_parts named (r free f) is).1)
    ]

gained : (free : ℕ) (r : ℕ → ℕ → Bool) (n : Names) (g : Gain) (p f : ℕ) → gains_by free r n g p f ≡ true
    → (names_principal free n p ≡ true) × (touched_by free r n (resource.Frame f) ≡ true)
gained free r n Nothing p f h = cc
gained free r n SlotTakesFrame p f h = let by = and_parts (is_at n.slot p) (is_at n.frame f) h in (or_left (is_at n.slot p) _ by.0, or_left (is_at n.frame f) _ by.1)
gained free r n FreeTakesFrame p f h = let by = and_parts (n.free && eqb free p) (is_at n.frame f) h in (or_right (is_at n.slot p) _ by.0, or_left (is_at n.frame f) _ by.1)
gained free r n FreeTakesReach p f h =
    let by = and_parts (n.free && eqb free p) (reach_of r n.slot f) h in
    (or_right (is_at n.slot p) _ by.0, or_right (is_at n.frame f) _ (or_left (reach_of r n.slot f) (n.free && r free f) by.1))

module _ (free : ℕ) where
  slot_below : (o : Option ℕ) (p : ℕ) → IfSome o (λ v. v < free) → is_at o p ≡ true → p < free
  slot_below None p low is = cc
  slot_below (Some v) p low is = let e : v ≡ p = eqb-true v p is in omega arith

  -- each principal is a part of its own
  pub own_of : (p : ℕ) → p < free + 1 → (r : Resource) × ((reach : ℕ → ℕ → Bool) → has_part free reach p r ≡ true)
  own_of p low =
      let most : p ≤ free = omega arith in
      elim (eq-or-lt_of_le most) [
        | inl last ↦ (resource.Free, λ reach. eq-eqb free p (sym last))
        | inr less ↦ (resource.Vm p, λ reach. and_from (eqb p p) (nat_lt p free) (eq-eqb p p refl) (lt-ltb p free less))
      ]

  module _ (n : Names) (low : IfSome n.slot (λ v. v < free)) where
    pub named_low : (p : ℕ) → names_principal free n p ≡ true → p < free + 1
    named_low p is = grind (arith, nat_tests, slot_below n.slot p low, cases_Bool (is_at n.slot p), cases_Bool n.free)

    module _ (reach : ℕ → ℕ → Bool) where
      by_part : (p : ℕ) (r : Resource) → names_principal free n p ≡ true → has_part free reach p r ≡ true → touched_by free reach n r ≡ true
      by_part p (resource.Frame f) named h = or_right (is_at n.frame f) (reach_of reach n.slot f || (n.free && reach free f)) (named_reach free reach n.slot n.free p f named h)
      by_part p (resource.Vm v) named h = grind (arith, nat_tests, cases_Bool (is_at n.slot p), cases_Bool n.free)
      by_part p resource.Free named h = grind (arith, nat_tests, slot_below n.slot p low, cases_Bool (is_at n.slot p), cases_Bool n.free)

      named_or_part : (r : Resource) → touched_by free reach n r ≡ true → ((f : ℕ) × (r ≡ resource.Frame f) × (is_at n.frame f ≡ true)) ⊎ ((p : ℕ) × (names_principal free n p ≡ true) × (has_part free reach p r ≡ true))
      named_or_part (resource.Frame f) h =
          elim (or_cases (is_at n.frame f) (reach_of reach n.slot f || (n.free && reach free f)) h) [
            | inl named ↦ inl (f, refl, named)
            | inr reached ↦ inr (reach_named free reach n.slot n.free f reached)
          ]
      named_or_part (resource.Vm v) h = inr (v, or_left (is_at n.slot v) (n.free && eqb free v) h, and_from (eqb v v) (nat_lt v free) (eq-eqb v v refl) (lt-ltb v free (slot_below n.slot v low h)))
      named_or_part resource.Free h = inr (free, or_right (is_at n.slot free) (n.free && eqb free free) (and_from n.free (eqb free free) h (eq-eqb free free refl)), eq-eqb free free refl)

module _ (free : ℕ) (start : ℕ → ℕ → Bool) (cs : List Names) (low : (k : ℕ) → IfSome (names_at cs k).slot (λ v. v < free)) where
  pub the_shape : Shape (λ k f. is_at (names_at cs k).frame f) (λ k p. names_principal free (names_at cs k) p) (λ k. has_part free (may_have free start cs k)) (touches free start cs)
  the_shape = record {
    by_name = λ k f h. or_left (is_at (names_at cs k).frame f) _ h;
    by_part = λ k. by_part free (names_at cs k) (low k) (may_have free start cs k);
    named_or_part = λ k. named_or_part free (names_at cs k) (low k) (may_have free start cs k);
    own = λ k p named. let it = own_of free p (named_low free (names_at cs k) (low k) p named) in (it.0, λ j. it.1 (may_have free start cs j));
    grows = grows;
    keeps = keeps;
  }
    where
      grows : (k p : ℕ) (r : Resource) → has_part free (may_have free start cs (suc k)) p r ≡ true → (has_part free (may_have free start cs k) p r ≡ true) ⊎ ((names_principal free (names_at cs k) p ≡ true) × (touches free start cs k r ≡ true))
      grows k p (resource.Frame f) h =
          let n : Names = names_at cs k in
          elim (or_cases (may_have free start cs k p f) (gains_by free (may_have free start cs k) n n.gain p f) h) [
            | inl old ↦ inl old
            | inr new ↦ inr (gained free (may_have free start cs k) n n.gain p f new)
          ]
      grows k p r h = inl h

      keeps : (k p : ℕ) (r : Resource) → has_part free (may_have free start cs k) p r ≡ true → has_part free (may_have free start cs (suc k)) p r ≡ true
      keeps k p (resource.Frame f) h = or_left (may_have free start cs k p f) _ h
      keeps k p r h = h
