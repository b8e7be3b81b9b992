-- Linked frames are each in the list once, and are those that the links spell.
use Rattle.std.proofs.Common.{ℕ, zero, suc, ◌≡◌, ◌<◌, ◌≤◌, ◌+◌, inl, inr, List, [], ◌∷◌, length, Option, Some, None, refl, sym, ap, subst, ◌∙◌, arith}
use Rattle.std.proofs.lemmas.Bool.{cases_eq}
use Rattle.kc_model.specs.Lawful.{times_in}
use Rattle.kc_model.proofs.States.Members.{IsOnce}
use Rattle.kc_types.specs.declared.link.Link.{Link}
use Rattle.kc_links.specs.Chain.{Links, first_or, NamesNeighbours, next_of, spelled}
use Rattle.kc_links.proofs.Times.{times-same, times-other}

abbrev pub prev_of : Option Link → Option ℕ
prev_of None = None
prev_of (Some link) = link.prev

-- this many steps back lead to the front
abbrev pub IsDeep : Links → ℕ → Option ℕ → Type 0
IsDeep m n None = n ≡ 0
IsDeep m zero (Some f) = ⊥
IsDeep m (suc n) (Some f) = IsDeep m n (prev_of (m f))

pub deep-same : (m : Links) (n k : ℕ) (at : Option ℕ) → IsDeep m n at → IsDeep m k at → n ≡ k
deep-same m n k None a b = a ∙ sym b
deep-same m zero k (Some f) a b = absurd a
deep-same m (suc n) zero (Some f) a b = absurd b
deep-same m (suc n) (suc k) (Some f) a b = ap suc (deep-same m n k (prev_of (m f)) a b)

pub deep-first : (m : Links) (n : ℕ) (before next : Option ℕ) (f : ℕ) → m f ≡ Some (record { prev = before; next = next }) → IsDeep m n before → IsDeep m (suc n) (Some f)
deep-first m n before next f linked deep = let e : prev_of (m f) ≡ before = ap prev_of linked in subst (λ at. IsDeep m n at) (sym e) deep

-- a frame of the list, and how deep it lies
pub record Deeper (m : Links) (n g : ℕ) : Type 0 where
  pub steps : ℕ
  pub deep : IsDeep m steps (Some g)
  pub deeper : n < steps

pub linked-deep : (m : Links) (before : Option ℕ) (fs : List ℕ) (after : Option ℕ) (n g : ℕ) → NamesNeighbours m before fs after → IsDeep m n before → 0 < times_in fs g → Deeper m n g
linked-deep m before [] after n g linked deep some = absurd (omega arith)
linked-deep m before (f ∷ fs) after n g linked deep some =
    let here = deep-first m n before (first_or after fs) f linked.0 deep in
    elim (cases_eq g f) [
      | inl same ↦ record { steps = suc n; deep = rw same here; deeper = omega arith }
      | inr other ↦ let later = linked-deep m (Some f) fs after (suc n) g linked.1 here (rw (times-other f fs g other) at some) in
          record { steps = later.steps; deep = later.deep; deeper = let d = later.deeper in omega (arith, d) }
    ]

never-again : (m : Links) (f : ℕ) (fs : List ℕ) (after : Option ℕ) (n : ℕ) → NamesNeighbours m (Some f) fs after → IsDeep m (suc n) (Some f) → (k : ℕ) → times_in fs f ≡ k → 1 + k ≤ 1
never-again m f fs after n linked here zero is = omega arith
never-again m f fs after n linked here (suc k) is =
    let later = linked-deep m (Some f) fs after (suc n) f linked here (rw is (omega arith)) in
    let same = deep-same m (suc n) later.steps (Some f) here later.deep in
    let d = later.deeper in absurd (omega (arith, same, d))

pub linked-once : (m : Links) (before : Option ℕ) (fs : List ℕ) (after : Option ℕ) (n : ℕ) → NamesNeighbours m before fs after → IsDeep m n before → IsOnce fs
linked-once m before [] after n linked deep g = omega arith
linked-once m before (f ∷ fs) after n linked deep g =
    let here = deep-first m n before (first_or after fs) f linked.0 deep in
    elim (cases_eq g f) [
      | inl same ↦ rw (same, times-same f fs) (never-again m f fs after n linked.1 here (times_in fs f) refl)
      | inr other ↦ rw (times-other f fs g other) (linked-once m (Some f) fs after (suc n) linked.1 here g)
    ]

pub spelled-linked : (m : Links) (before : Option ℕ) (fs : List ℕ) → NamesNeighbours m before fs None → spelled m (length fs) (first_or None fs) ≡ fs
spelled-linked m before [] linked = refl
spelled-linked m before (f ∷ fs) linked =
    ap (λ l. f ∷ l) (ap (λ link. spelled m (length fs) (next_of link)) linked.0 ∙ spelled-linked m (Some f) fs linked.1)
