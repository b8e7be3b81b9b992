-- The leaves of a slot's table.
use Rattle.std.proofs.Common.{ℕ, zero, suc, ◌≡◌, ◌<◌, ◌≤◌, ◌/◌, ◌⊎◌, inl, inr, Bool, true, false, cond, ◌==◌, nat_eq, eq-eqb, List, [], ◌∷◌, ◌++◌, length, refl, sym, ◌∙◌, arith, length-append, All}
use Rattle.std.proofs.lemmas.Bool.{cases_eq, ne_eqb, or_parts}
use Rattle.std.proofs.lemmas.Grind.{common_steps}
use Rattle.std.proofs.lemmas.List.Elements.{All-append}
use Rattle.std.proofs.lemmas.List.Folds.{list_any-append}
use Rattle.std.specs.List.{list_any}
use Rattle.kc_types.specs.Configuration.{gfns_of, roots_of}
use Rattle.kc_types.specs.declared.version.Version.{Version}
use Rattle.kc_types.specs.declared.version.Version.TheVariants.{One, Two, Three}
use Rattle.kc_model.specs.Effects.{with_leaf}
use Rattle.kc_model.specs.Lawful.{has_leaf, times_in}
use Rattle.kc_model.proofs.States.Lists.{times_in-push}

-- a number that the test does not find is not in the list
not-listed : (xs : List ℕ) (r : ℕ) → list_any (λ x. x == r) xs ≡ false → times_in xs r ≡ 0
not-listed [] r none = refl
not-listed (x ∷ xs) r none = let parts = or_parts (nat_eq x r) (list_any (λ y. y == r) xs) none in let rest = not-listed xs r parts.1 in rw (parts.0, rest) refl

-- the leaves after a guest frame got one
pub record IsGrown (roots limit : ℕ) (leaves : List ℕ) (g : ℕ) (grown : List ℕ) : Type 0 where
  pub few : length grown ≤ limit
  pub once : (root : ℕ) → times_in grown root ≤ 1
  pub each : All (λ root. root < roots) grown
  pub here : has_leaf grown g ≡ true
  pub kept : (h : ℕ) → has_leaf leaves h ≡ true → has_leaf grown h ≡ true

only : (roots x : ℕ) → x < roots → All (λ root. root < roots) (x ∷ [])
only roots x h zero d lt = h
only roots x h (suc k) d lt = absurd (omega arith)

-- the root slot of a guest frame that there is
pub root-in : (version : Version) (g : ℕ) → g < gfns_of version → g / 512 < roots_of version
root-in One g h = omega (arith, h)
root-in Two g h = omega (arith, h)
root-in Three g h = omega (arith, h)

grown-by : (b : Bool) (roots limit : ℕ) (leaves : List ℕ) (g : ℕ) → has_leaf leaves g ≡ b → (b ≡ true) ⊎ (length leaves < limit) → g / 512 < roots → length leaves ≤ limit → ((root : ℕ) → times_in leaves root ≤ 1) → All (λ root. root < roots) leaves → IsGrown roots limit leaves g (cond b leaves (leaves ++ g / 512 ∷ []))
grown-by true roots limit leaves g is room within few once each = record { few = few; once = once; each = each; here = is; kept = λ h e. e }
grown-by false roots limit leaves g is room within few once each = record {
  few = let lt : length leaves < limit = elim room [ inl e ↦ absurd cc | inr lt ↦ lt ] in simp length-append (omega arith);
  once = λ root. rw (times_in-push leaves (g / 512) root) (elim (cases_eq root (g / 512)) [
    | inl same ↦ let none = not-listed leaves (g / 512) is in rw (same, none) (grind (arith, common_steps))
    | inr other ↦ let h = once root in let differ : nat_eq (g / 512) root ≡ false = ne_eqb (g / 512) root (λ e. other (sym e)) in grind (arith, common_steps, h, differ)
  ]);
  each = All-append (λ root. root < roots) leaves (g / 512 ∷ []) each (only roots (g / 512) within);
  here = list_any-append (λ root. root == g / 512) leaves (g / 512 ∷ []) ∙ (let same = eq-eqb (g / 512) (g / 512) refl in rw (is, same) refl);
  kept = λ h e. list_any-append (λ root. root == h / 512) leaves (g / 512 ∷ []) ∙ rw e refl;
}

pub leaves-grown : (roots limit : ℕ) (leaves : List ℕ) (g : ℕ) → (has_leaf leaves g ≡ true) ⊎ (length leaves < limit) → g / 512 < roots → length leaves ≤ limit → ((root : ℕ) → times_in leaves root ≤ 1) → All (λ root. root < roots) leaves → IsGrown roots limit leaves g (with_leaf leaves g)
leaves-grown roots limit leaves g = grown-by (has_leaf leaves g) roots limit leaves g refl
