-- The map that a look-up function is.
use Rattle.std.proofs.Common.{ℕ, zero, suc, ◌≡◌, ◌<◌, ◌≤◌, inl, inr, true, false, cond, Option, Some, None, refl, sym, ap, ◌∙◌, arith}
use Rattle.std.proofs.lemmas.Bool.{cases_eq, cases_lt}
use Rattle.std.specs.declared.cmp.Ordering.{Ordering}
use Rattle.std.specs.declared.cmp.Ordering.TheVariants.{Less, Equal, Greater}
use Rattle.std.specs.Ordering.{nat_cmp, eq_by_cmp, is_eq}
use Rattle.std.specs.Cmp.{nat_cmp_total, ranked, eq_by_cmp_equiv}
use Rattle.std.specs.FinMap.{FinMap, get, insert, remove, get-empty, get-insert, get-remove, same_map, nat_cmp-IsAntisymmetric}
use Rattle.kc_vms.specs.Levels.{put, map_of}

pub keys-same : (n : ℕ) → eq_by_cmp nat_cmp n n ≡ true
keys-same n = (eq_by_cmp_equiv nat_cmp_total).refl n

tied : (q n : ℕ) → (q ≡ n → ⊥) → (o : Ordering) → nat_cmp q n ≡ o → is_eq o ≡ false
tied q n other Less is = refl
tied q n other Equal is = absurd (other (ranked q n Equal (sym is)))
tied q n other Greater is = refl

pub keys-other : (q n : ℕ) → (q ≡ n → ⊥) → eq_by_cmp nat_cmp q n ≡ false
keys-other q n other = tied q n other (nat_cmp q n) refl

pub inserted-same : (m : FinMap nat_cmp ℕ) (n f : ℕ) → get (insert m n f) n ≡ Some f
inserted-same m n f = get-insert nat_cmp_total m n f n ∙ ap (λ b. cond b (Some f) (get m n)) (keys-same n)

pub inserted-other : (m : FinMap nat_cmp ℕ) (n f q : ℕ) → (q ≡ n → ⊥) → get (insert m n f) q ≡ get m q
inserted-other m n f q other = get-insert nat_cmp_total m n f q ∙ ap (λ b. cond b (Some f) (get m q)) (keys-other q n other)

pub removed-same : (m : FinMap nat_cmp ℕ) (n : ℕ) → get (remove m n) n ≡ None
removed-same m n = get-remove nat_cmp_total m n n ∙ ap (λ b. cond b None (get m n)) (keys-same n)

pub removed-other : (m : FinMap nat_cmp ℕ) (n q : ℕ) → (q ≡ n → ⊥) → get (remove m n) q ≡ get m q
removed-other m n q other = get-remove nat_cmp_total m n q ∙ ap (λ b. cond b None (get m q)) (keys-other q n other)

put-same : (v : Option ℕ) (n : ℕ) (m : FinMap nat_cmp ℕ) → get m n ≡ None → get (put v n m) n ≡ v
put-same None n m none = none
put-same (Some f) n m none = inserted-same m n f

put-other : (v : Option ℕ) (n q : ℕ) (m : FinMap nat_cmp ℕ) → (q ≡ n → ⊥) → get (put v n m) q ≡ get m q
put-other None n q m other = refl
put-other (Some f) n q m other = inserted-other m n f q other

pub map_of-past : (look : ℕ → Option ℕ) (n q : ℕ) → n ≤ q → get (map_of look n) q ≡ None
unfolding map_of
map_of-past look zero q past = get-empty nat_cmp q
map_of-past look (suc n) q past = put-other (look n) n q (map_of look n) (λ same. absurd (omega (arith, same))) ∙ map_of-past look n q (omega arith)

pub map_of-below : (look : ℕ → Option ℕ) (n q : ℕ) → q < n → get (map_of look n) q ≡ look q
unfolding map_of
map_of-below look zero q below = absurd (omega arith)
map_of-below look (suc n) q below = elim (cases_eq q n) [
  | inl same ↦ rw same (put-same (look n) n (map_of look n) (map_of-past look n n (omega arith)))
  | inr other ↦ put-other (look n) n q (map_of look n) other ∙ map_of-below look n q (omega arith)
]

-- two maps that agree below a bound and have nothing past it
pub maps-same : (a b : FinMap nat_cmp ℕ) (n : ℕ) → ((q : ℕ) → n ≤ q → get a q ≡ get b q) → ((q : ℕ) → q < n → get a q ≡ get b q) → a ≡ b
maps-same a b n past below = same_map nat_cmp_total nat_cmp-IsAntisymmetric a b (λ q. elim (cases_lt q n) [ inl lt ↦ below q lt | inr le ↦ past q le ])
