-- One more frame is counted.
use Rattle.std.proofs.Common.{ℕ, zero, suc, ◌≡◌, ◌<◌, ◌≤◌, ◌+◌, inl, inr, Bool, true, false, cond, List, replicate, get_or, set, Some, None, nat_eq, eq-eqb, refl, sym, ap, ◌∙◌, arith, length-set, get_or-set_same, get_or-set_other}
use Rattle.std.proofs.lemmas.Bool.{cases_eq, ne_eqb}
use Rattle.std.proofs.lemmas.List.{get_or-replicate, length-replicate}
use Rattle.std.proofs.lemmas.Option.{same_Some}
use Rattle.kc_types.specs.declared.owner.Owner.{Owner}
use Rattle.kc_types.specs.declared.owner.Owner.TheVariants.{Core, Host, Free, Vm}
use Rattle.kc_model.specs.Lawful.{same_owner}
use Rattle.kc_dump.specs.declared.line.FrameLine.{FrameLine}
use Rattle.kc_dump.specs.Dump.{line_owner}
use Rattle.kc_dump.specs.Lists.{owned}
use Rattle.kc_dump.specs.Sums.{sum_below}
use Rattle.kc_audit.specs.Findings.{list_owner}
use Rattle.kc_audit.specs.Counts.{list_place, AreOwnerCounts}

-- before any frame is counted each list has none
pub none-counted : (lines : List FrameLine) (n : ℕ) → AreOwnerCounts lines 0 n (replicate n 0)
none-counted lines n = record { places = length-replicate n 0; counted = λ p low. get_or-replicate n p 0 0 low }

-- no more frames are counted than there are
pub sum-low : (lines : List FrameLine) (owner : Owner) (n : ℕ) → sum_below (owned lines owner) n ≤ n
sum-low lines owner zero = omega arith
sum-low lines owner (suc n) = let rest = sum-low lines owner n in let last = one (same_owner (line_owner lines n) owner) in omega (arith, rest, last)
  where
    one : (b : Bool) → cond b 1 0 ≤ 1
    one true = omega arith
    one false = omega arith

placed : (owner : Owner) (q p : ℕ) → list_place owner ≡ Some q → same_owner owner (list_owner p) ≡ nat_eq q p
placed Core q p e = cc
placed Host q p e = cc
placed Free q zero e = sym (eq-eqb q 0 (sym (same_Some 0 q e)))
placed Free q (suc w) e = let z = same_Some 0 q e in sym (ne_eqb q (suc w) (λ s. omega (arith, z, s)))
placed (Vm v) q zero e = let z = same_Some (v + 1) q e in sym (ne_eqb q 0 (λ s. omega (arith, z, s)))
placed (Vm v) q (suc w) e = let z = same_Some (v + 1) q e in elim (cases_eq v w) [
  | inl same ↦ eq-eqb v w same ∙ sym (eq-eqb q (suc w) (omega (arith, z, same)))
  | inr other ↦ ne_eqb v w other ∙ sym (ne_eqb q (suc w) (λ s. other (omega (arith, z, s))))
]

unplaced : (owner : Owner) (p : ℕ) → list_place owner ≡ None → same_owner owner (list_owner p) ≡ false
unplaced Core zero e = refl
unplaced Core (suc w) e = refl
unplaced Host zero e = refl
unplaced Host (suc w) e = refl
unplaced Free p e = cc
unplaced (Vm v) p e = cc

next-sum : (lines : List FrameLine) (owner : Owner) (i : ℕ) → sum_below (owned lines owner) (i + 1) ≡ sum_below (owned lines owner) i + owned lines owner i
next-sum lines owner i = let e : i + 1 ≡ suc i = omega arith in ap (sum_below (owned lines owner)) e

pub counted-some : (lines : List FrameLine) (i lists q x : ℕ) (old : List ℕ) → list_place (line_owner lines i) ≡ Some q → q < lists → x ≡ get_or old q 0 + 1 → AreOwnerCounts lines i lists old → AreOwnerCounts lines (i + 1) lists (set old q x)
counted-some lines i lists q x old place low more so_far = record {
  places = length-set old q x ∙ so_far.places;
  counted = λ p within.
      let here : owned lines (list_owner p) i ≡ cond (nat_eq q p) 1 0 = ap (λ b. cond b 1 0) (placed (line_owner lines i) q p place) in
      let before = so_far.counted p within in
      let next = next-sum lines (list_owner p) i in
      elim (cases_eq p q) [
        | inl same ↦
            let one : ◌≡◌ {A = ℕ} (cond (nat_eq q p) 1 0) 1 = ap (λ b. cond b 1 0) (eq-eqb q p (sym same)) in
            let there : get_or (set old q x) p 0 ≡ x = ap (λ k. get_or (set old q x) k 0) same ∙ get_or-set_same old q x 0 (let l = so_far.places in omega (arith, l, low)) in
            let was : get_or old q 0 ≡ get_or old p 0 = ap (λ k. get_or old k 0) (sym same) in
            omega (arith, here, before, next, one, there, was, more)
        | inr other ↦
            let none : ◌≡◌ {A = ℕ} (cond (nat_eq q p) 1 0) 0 = ap (λ b. cond b 1 0) (ne_eqb q p (λ e. other (sym e))) in
            let there : get_or (set old q x) p 0 ≡ get_or old p 0 = get_or-set_other old q p x 0 other in
            omega (arith, here, before, next, none, there)
      ];
}

pub counted-none : (lines : List FrameLine) (i lists : ℕ) (old : List ℕ) → list_place (line_owner lines i) ≡ None → AreOwnerCounts lines i lists old → AreOwnerCounts lines (i + 1) lists old
counted-none lines i lists old place so_far = record {
  places = so_far.places;
  counted = λ p within.
      let here : owned lines (list_owner p) i ≡ 0 = ap (λ b. cond b 1 0) (unplaced (line_owner lines i) p place) in
      let before = so_far.counted p within in
      let next = next-sum lines (list_owner p) i in
      omega (arith, here, before, next);
}
