-- Lists of several owners over one store of links, one of which changes.
use Rattle.std.proofs.Common.{ℕ, zero, suc, ◌≡◌, ◌≢◌, ◌<◌, ◌⊎◌, inl, inr, List, [], ◌∷◌, Option, Some, refl, sym, ap, ◌∙◌, arith}
use Rattle.std.proofs.lemmas.Bool.{cases_eq}
use Rattle.std.proofs.lemmas.Bool.Decides.{nat_tests}
use Rattle.std.proofs.lemmas.Option.{same_Some}
use Rattle.kc_types.specs.declared.link.Ends.{Ends}
use Rattle.kc_types.specs.declared.owner.Owner.{Owner}
use Rattle.kc_types.specs.declared.owner.Owner.TheVariants.{Core, Host, Free, Vm}
use Rattle.kc_model.specs.Lawful.{times_in}
use Rattle.kc_links.specs.Chain.{Links, unlinked}
use Rattle.kc_links.specs.Ending.{listed, IsList, KeepsOthers, AreApart}
use Rattle.kc_links.proofs.Others.{others-list, others-listed}
use Rattle.kc_parts.specs.States.{AreLists}

pub same_or_other : (p o : Owner) → (p ≡ o) ⊎ (p ≢ o)
same_or_other Core Core = inl refl
same_or_other Host Host = inl refl
same_or_other Free Free = inl refl
same_or_other (Vm v) (Vm w) = elim (cases_eq v w) [ inl same ↦ inl (ap Vm same) | inr other ↦ inr (λ e. other (ap number e)) ]
  where
    number : Owner → ℕ
    number (Vm v) = v
    number _ = 0
same_or_other Core Host = inr (λ e. cc)
same_or_other Core Free = inr (λ e. cc)
same_or_other Core (Vm v) = inr (λ e. cc)
same_or_other Host Core = inr (λ e. cc)
same_or_other Host Free = inr (λ e. cc)
same_or_other Host (Vm v) = inr (λ e. cc)
same_or_other Free Core = inr (λ e. cc)
same_or_other Free Host = inr (λ e. cc)
same_or_other Free (Vm v) = inr (λ e. cc)
same_or_other (Vm v) Core = inr (λ e. cc)
same_or_other (Vm v) Host = inr (λ e. cc)
same_or_other (Vm v) Free = inr (λ e. cc)

pub none-or-some : (n : ℕ) → (n ≡ 0) ⊎ (0 < n)
none-or-some zero = inl refl
none-or-some (suc n) = inr (omega arith)

-- the list of one frame
pub first-inside : (f : ℕ) → 0 < times_in (f ∷ []) f
first-inside f = grind (arith, nat_tests)

pub only-first : (f g : ℕ) → 0 < times_in (f ∷ []) g → g ≡ f
only-first f g some = grind (arith, nat_tests)

pub not-first : (f g : ℕ) → times_in (f ∷ []) g ≡ 0 → g ≢ f
not-first f g none same = grind (arith, nat_tests)

-- one owner's list and links change, among frames of that owner
module _ (links links' : Links) (ends ends' : Owner → Option Ends) (owner_at : ℕ → Owner) (mine : Owner) (frames : List ℕ)
    (are : AreLists links ends owner_at) (keeps : KeepsOthers links links' frames) (owned : (f : ℕ) → 0 < times_in frames f → owner_at f ≡ mine) where
  apart : (p : Owner) (e : Ends) → p ≢ mine → ends p ≡ Some e → AreApart (listed links e) frames
  apart p e other is f some = elim (none-or-some (times_in frames f)) [
    | inl none ↦ none
    | inr there ↦ absurd (other (sym (are.owned p e f is some) ∙ owned f there))
  ]

  -- the lists of the others stay
  pub list-kept : (p : Owner) (e : Ends) → p ≢ mine → ends p ≡ Some e → listed links' e ≡ listed links e
  list-kept p e other is = others-listed links links' e frames keeps (are.spelled p e is) (apart p e other is)

  pub lists-moved : (e' : Ends) → ends' mine ≡ Some e' → ((p : Owner) → p ≢ mine → ends' p ≡ ends p) → mine ≢ Host
      → IsList links' e' → ((f : ℕ) → 0 < times_in (listed links' e') f → 0 < times_in frames f) → AreLists links' ends' owner_at
  lists-moved e' mine_is others not_host list within = record {
    spelled = λ p e is. elim (same_or_other p mine) [
      | inl same ↦ let one : Some e ≡ Some e' = sym is ∙ ap ends' same ∙ mine_is in rw (same_Some e e' one) list
      | inr other ↦ let was = sym (others p other) ∙ is in others-list links links' e frames keeps (are.spelled p e was) (apart p e other was)
    ];
    owned = λ p e f is some. elim (same_or_other p mine) [
      | inl same ↦ let one : Some e ≡ Some e' = sym is ∙ ap ends' same ∙ mine_is in owned f (within f (rw (same_Some e e' one) at some)) ∙ sym same
      | inr other ↦ let was = sym (others p other) ∙ is in are.owned p e f was (rw (list-kept p e other was) at some)
    ];
    alone = λ f host. keeps f (elim (none-or-some (times_in frames f)) [
      | inl none ↦ none
      | inr there ↦ absurd (not_host (sym (owned f there) ∙ host))
    ]) ∙ are.alone f host;
  }

-- frames in no list change their owners
pub lists-owners : (links links' : Links) (ends ends' : Owner → Option Ends) (owner_at owner_at' : ℕ → Owner) (fs : List ℕ) → links' ≡ links → ((p : Owner) → ends' p ≡ ends p)
    → ((g : ℕ) → times_in fs g ≡ 0 → owner_at' g ≡ owner_at g) → ((g : ℕ) → 0 < times_in fs g → (p : Owner) (e : Ends) → ends p ≡ Some e → times_in (listed links e) g ≡ 0)
    → ((g : ℕ) → 0 < times_in fs g → owner_at' g ≡ Host → links g ≡ Some unlinked) → AreLists links ends owner_at → AreLists links' ends' owner_at'
lists-owners links links' ends ends' owner_at owner_at' fs links_are ends_are same none alone are = record {
  spelled = λ p e is. rw links_are (are.spelled p e (sym (ends_are p) ∙ is));
  owned = λ p e g is some. let there : 0 < times_in (listed links e) g = rw links_are at some in elim (none-or-some (times_in fs g)) [
    | inl out ↦ same g out ∙ are.owned p e g (sym (ends_are p) ∙ is) there
    | inr moved ↦ let gone = none g moved p e (sym (ends_are p) ∙ is) in absurd (omega (arith, gone, there))
  ];
  alone = λ g host. ap (λ (l : Links). l g) links_are ∙ elim (none-or-some (times_in fs g)) [
    | inl out ↦ are.alone g (sym (same g out) ∙ host)
    | inr moved ↦ alone g moved host
  ];
}

-- equal owners make the same lists
pub lists-same : (links links' : Links) (ends ends' : Owner → Option Ends) (owner_at owner_at' : ℕ → Owner) → links' ≡ links → ((p : Owner) → ends' p ≡ ends p) → ((g : ℕ) → owner_at' g ≡ owner_at g)
    → AreLists links ends owner_at → AreLists links' ends' owner_at'
lists-same links links' ends ends' owner_at owner_at' links_are ends_are owners_are are =
    lists-owners links links' ends ends' owner_at owner_at' [] links_are ends_are (λ g none. owners_are g) (λ g some. absurd (omega (arith, some))) (λ g some. absurd (omega (arith, some))) are
