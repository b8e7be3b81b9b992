-- A list that a call does not touch stays as it is.
use Rattle.std.proofs.Common.{ℕ, ◌≡◌, inl, inr, List, [], ◌∷◌, None, eq-eqb, refl, sym, ◌∙◌, arith}
use Rattle.std.proofs.lemmas.Bool.{cases_eq, ne_eqb}
use Rattle.kc_model.specs.Lawful.{times_in}
use Rattle.kc_model.specs.Effects.{without}
use Rattle.kc_types.specs.declared.link.Ends.{Ends}
use Rattle.kc_links.specs.Chain.{Links}
use Rattle.kc_links.specs.Ending.{Chain, listed, IsList, KeepsOthers, AreApart}
use Rattle.kc_links.proofs.Times.{times-other}
use Rattle.kc_links.proofs.Linked.{linked-same}
use Rattle.kc_links.proofs.Chains.{chain-listed, chain-is_list}

chain-others : (m n : Links) (ends : Ends) (fs : List ℕ) → KeepsOthers m n fs → IsList m ends → AreApart (listed m ends) fs → Chain n ends (listed m ends)
chain-others m n ends fs keeps list apart = record {
  head = list.head;
  tail = list.tail;
  count = list.count;
  linked = linked-same m n None (listed m ends) None list.linked (λ g some. keeps g (apart g some));
}

pub others-list : (m n : Links) (ends : Ends) (fs : List ℕ) → KeepsOthers m n fs → IsList m ends → AreApart (listed m ends) fs → IsList n ends
others-list m n ends fs keeps list apart = chain-is_list n ends (listed m ends) (chain-others m n ends fs keeps list apart)

pub others-listed : (m n : Links) (ends : Ends) (fs : List ℕ) → KeepsOthers m n fs → IsList m ends → AreApart (listed m ends) fs → listed n ends ≡ listed m ends
others-listed m n ends fs keeps list apart = chain-listed n ends (listed m ends) (chain-others m n ends fs keeps list apart)

pub without-same : (fs : List ℕ) (f : ℕ) → times_in (without fs f) f ≡ 0
without-same [] f = refl
without-same (x ∷ xs) f = elim (cases_eq x f) [
  | inl same ↦ rw (eq-eqb x f same) (without-same xs f)
  | inr other ↦ rw (ne_eqb x f other, times-other x (without xs f) f (λ e. other (sym e))) (without-same xs f)
]

pub without-other : (fs : List ℕ) (f g : ℕ) → (g ≡ f → ⊥) → times_in (without fs f) g ≡ times_in fs g
without-other [] f g other = refl
without-other (x ∷ xs) f g other = elim (cases_eq x f) [
  | inl same ↦ rw (eq-eqb x f same) (without-other xs f g other ∙ sym (times-other x xs g (λ e. other (e ∙ same))))
  | inr kept ↦ rw (ne_eqb x f kept) (let rest = without-other xs f g other in omega (arith, rest))
]
