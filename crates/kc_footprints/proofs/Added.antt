-- Sets gain a number.
use Rattle.std.proofs.Common.{◌≡◌, ◌≢◌, ℕ, zero, suc, ◌+◌, ◌*◌, ◌<◌, ◌≤◌, ◌^◌, Bool, true, false, ◌&&◌, ◌||◌, List, [], ◌∷◌, ◌++◌, length, get_or, set, take, replicate, refl, sym, ◌∙◌, ap, arith, inl, inr, length-append}
use Rattle.std.specs.Prelude.{eqb}
use Rattle.std.specs.List.{IsDistinct}
use Rattle.std.proofs.lemmas.Grind.{common_steps}
use Rattle.std.proofs.lemmas.Bool.Decides.{nat_tests}
use Rattle.std.proofs.lemmas.Cmp.{nat_eq_equiv}
use Rattle.std.proofs.lemmas.List.{get_or-set_same, get_or-set_other, take-append-le, take_all}
use Rattle.std.proofs.lemmas.List.Folds.{list_any-append}
use Rattle.std.proofs.lemmas.Map.Keys.{IsDistinct-push}
use Rattle.std.proofs.lemmas.Nat.{same_from_place}
use Rattle.std.proofs.Math.ListN.{length-set, length-replicate}
use Rattle.std.proofs.Math.Bool.{or-false}
use Rattle.std.proofs.lemmas.Bool.{cases_Bool, cases_eq, cond_both, eq-eqb, ne_eqb}
use Rattle.kc_model.proofs.States.Slots.{get_or-same}
use Rattle.kc_footprints.specs.Members.{has_member, with_member, AreFlags}

pub is_in_added : (xs : List ℕ) (f g : ℕ) → has_member (with_member xs f) g ≡ (has_member xs g || eqb f g)
is_in_added xs f g = grind (arith, nat_tests, list_any-append (eqb g) xs (f ∷ []), cases_Bool (has_member xs f), cases_Bool (has_member xs g))

pub added_once : (xs : List ℕ) (f : ℕ) → IsDistinct eqb xs → IsDistinct eqb (with_member xs f)
added_once xs f once = cond_both (has_member xs f) xs (xs ++ f ∷ []) (IsDistinct eqb) (λ has. once) (λ none. IsDistinct-push nat_eq_equiv xs f once none)

-- a list keeps its front
added_front : (xs : List ℕ) (f n : ℕ) → n ≤ length xs → (n ≤ length (with_member xs f)) × (take n (with_member xs f) ≡ take n xs)
added_front xs f n low =
    cond_both (has_member xs f) xs (xs ++ f ∷ []) (λ ys. (n ≤ length ys) × (take n ys ≡ take n xs)) (λ has. (low, refl))
    (λ none. (omega (arith, length-append xs (f ∷ [])), take-append-le n xs (f ∷ []) low))

-- one of several sets
module _ (p f : ℕ) (a b : List (List ℕ)) (low : p < length a) (sets : b ≡ set a p (with_member (get_or a p []) f)) where
  pub other_set : (q : ℕ) → q ≢ p → get_or b q [] ≡ get_or a q []
  other_set q ne = rw sets (get_or-set_other a p q (with_member (get_or a p []) f) [] ne)

  this_set : get_or b p [] ≡ with_member (get_or a p []) f
  this_set = rw sets (get_or-set_same a p (with_member (get_or a p []) f) [] low)

  -- what holds of a set that stays, and of the one that gains the number, holds of each
  each_set : (P : ℕ → List ℕ → List ℕ → Type 0) → ((q : ℕ) → q ≢ p → P q (get_or a q []) (get_or a q [])) → P p (get_or a p []) (with_member (get_or a p []) f) → (q : ℕ) → P q (get_or a q []) (get_or b q [])
  each_set P stays new q =
      elim (cases_eq q p) [
        | inl same ↦ rw (same, this_set) new
        | inr differ ↦ rw (other_set q differ) (stays q differ)
      ]

  pub set_has : (q g : ℕ) → has_member (get_or b q []) g ≡ (has_member (get_or a q []) g || (eqb p q && eqb f g))
  set_has q g =
      each_set (λ q xs ys. has_member ys g ≡ (has_member xs g || (eqb p q && eqb f g)))
      (λ q differ. rw (ne_eqb p q (λ e. differ (sym e))) (sym (or-false (has_member (get_or a q []) g))))
      (rw (eq-eqb p p refl) (is_in_added (get_or a p []) f g)) q

  pub set_once : (q : ℕ) → IsDistinct eqb (get_or a q []) → IsDistinct eqb (get_or b q [])
  set_once = each_set (λ q xs ys. IsDistinct eqb xs → IsDistinct eqb ys) (λ q differ once. once) (added_once (get_or a p []) f)

  pub set_grown : (q n : ℕ) → n ≤ length (get_or a q []) → (n ≤ length (get_or b q [])) × (take n (get_or b q []) ≡ take n (get_or a q []))
  set_grown = each_set (λ q xs ys. (n : ℕ) → n ≤ length xs → (n ≤ length ys) × (take n ys ≡ take n xs)) (λ q differ n under. (under, refl)) (added_front (get_or a p []) f)

-- flags

pub no_flags : (n k : ℕ) → n < 2 ^ 32 → AreFlags (replicate n []) (replicate k false)
no_flags n k few = record {
  few = let l = length-replicate {A = List ℕ} n [] in omega arith;
  has = λ p f low. get_or-same k false (f * length (replicate n []) + p) ∙ sym (ap (λ (xs : List ℕ). has_member xs f) (get_or-same n [] p));
}

-- more flags that are false
more_false : (flags : List Bool) (k i : ℕ) → get_or (flags ++ replicate k false) i false ≡ get_or flags i false
more_false [] k i = get_or-same k false i
more_false (x ∷ xs) k zero = refl
more_false (x ∷ xs) k (suc i) = more_false xs k i

pub flags_same : (sets : List (List ℕ)) (flags after : List Bool) (n k : ℕ) → length flags ≤ n → after ≡ take n flags ++ replicate k false → AreFlags sets flags → AreFlags sets after
flags_same sets flags after n k all is are = rw (is, take_all n flags all) record { few = are.few; has = λ p f low. more_false flags k (f * length sets + p) ∙ are.has p f low }

pub flags_added : (sets : List (List ℕ)) (flags : List Bool) (p f : ℕ) → p < length sets → f * length sets + p < length flags → AreFlags sets flags
    → AreFlags (set sets p (with_member (get_or sets p []) f)) (set flags (f * length sets + p) true)
flags_added sets flags p f low room are =
    let len : length (set sets p (with_member (get_or sets p []) f)) ≡ length sets = length-set sets p (with_member (get_or sets p []) f) in
    record { few = rw len are.few; has = λ q g there. rw len (each q g (rw len at there)) }
  where
    each : (q g : ℕ) → q < length sets → get_or (set flags (f * length sets + p) true) (g * length sets + q) false ≡ has_member (get_or (set sets p (with_member (get_or sets p []) f)) q []) g
    each q g there =
        let apart : g * length sets + q ≡ f * length sets + p → (g ≡ f) × (q ≡ p) = same_from_place g q f p (length sets) there low in
        let has = set_has p f sets (set sets p (with_member (get_or sets p []) f)) low refl q g in
        grind (arith, nat_tests, common_steps, has, are.has q g there, cases_Bool (has_member (get_or sets q []) g))
