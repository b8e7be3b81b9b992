-- Links and ends that spell a list are those that the definitions give the list.
use Rattle.std.proofs.Common.{ℕ, ◌≡◌, ◌≢◌, ◌<◌, inl, inr, List, [], ◌∷◌, Option, Some, None, eq-eqb, refl, sym, ap, ◌∙◌, arith}
use Rattle.std.proofs.lemmas.Bool.{cases_eq, ne_eqb}
use Rattle.kc_types.specs.declared.link.Ends.{Ends}
use Rattle.kc_types.specs.declared.link.Link.{Link}
use Rattle.kc_model.specs.Lawful.{times_in}
use Rattle.kc_model.specs.Links.{link_after, link_in, first_of}
use Rattle.kc_model.specs.Linked.{ends_of, last_of}
use Rattle.kc_model.proofs.States.Members.{IsOnce, once-rest}
use Rattle.kc_links.specs.Chain.{Links, NamesNeighbours, first_or, last_or}
use Rattle.kc_links.specs.Ending.{Chain}
use Rattle.kc_links.proofs.Times.{times-other, times-same, once-first}

linking : Option ℕ → Option ℕ → Link
linking prev next = record { prev = prev; next = next }

first-is : (xs : List ℕ) → first_or None xs ≡ first_of xs
first-is [] = refl
first-is (x ∷ xs) = refl

last-is : (before : Option ℕ) (xs : List ℕ) → last_or before xs ≡ last_of before xs
last-is before [] = refl
last-is before (x ∷ xs) = last-is (Some x) xs

-- a frame's link in a list that is linked is the list's
pub link_in-linked : (links : Links) (before : Option ℕ) (fs : List ℕ) (f : ℕ) → NamesNeighbours links before fs None → 0 < times_in fs f → links f ≡ Some (link_after before fs f)
unfolding linking
link_in-linked links before [] f linked some = absurd (omega (arith, some))
link_in-linked links before (x ∷ xs) f linked some = elim (cases_eq x f) [
  | inl same ↦ rw (eq-eqb x f same) (ap links (sym same) ∙ linked.0 ∙ ap (λ next. Some (linking before next)) (first-is xs))
  | inr other ↦ rw (ne_eqb x f other) (link_in-linked links (Some x) xs f linked.1 (rw (times-other x xs f (λ e. other (sym e))) at some))
]

-- links that are the list's at each of its frames link the list
linked-each : (links : Links) (before : Option ℕ) (xs : List ℕ) → IsOnce xs → ((f : ℕ) → 0 < times_in xs f → links f ≡ Some (link_after before xs f)) → NamesNeighbours links before xs None
linked-each links before [] once each = tt
linked-each links before (x ∷ xs) once each = (
  each x (let one = times-same x xs in omega (arith, one)) ∙ rw (eq-eqb x x refl, ← first-is xs) refl,
  linked-each links (Some x) xs (once-rest x xs once) (λ f some.
      let other : f ≢ x = λ e. let none = once-first x xs once in let here : 0 < times_in xs x = rw e at some in omega (arith, none, here) in
      each f (let later = times-other x xs f other in omega (arith, later, some)) ∙ rw (ne_eqb x f (λ e. other (sym e))) refl),
)

-- and the list's ends make a chain of it
pub chain-each : (links : Links) (xs : List ℕ) → IsOnce xs → ((f : ℕ) → 0 < times_in xs f → links f ≡ Some (link_in xs f)) → Chain links (ends_of xs) xs
chain-each links xs once each = record { head = sym (first-is xs); tail = sym (last-is None xs); count = refl; linked = linked-each links None xs once each }

-- the ends of a chain are its list's
pub chain-ends : (links : Links) (ends : Ends) (xs : List ℕ) → Chain links ends xs → ends ≡ ends_of xs
chain-ends links ends xs chain = λ i. record { head = (chain.head ∙ first-is xs) i; tail = (chain.tail ∙ last-is None xs) i; count = chain.count i }
