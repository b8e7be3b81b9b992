-- How changes of links affect frames that are linked one after another.
use Rattle.std.proofs.Common.{ℕ, ◌≡◌, ◌<◌, ◌+◌, ◌⊎◌, inl, inr, List, [], ◌∷◌, ◌++◌, Option, Some, None, IsSome, eq-eqb, refl, sym, ap, ◌∙◌, arith}
use Rattle.std.proofs.lemmas.Bool.{cases_eq, ne_eqb}
use Rattle.kc_model.specs.Lawful.{times_in}
use Rattle.kc_model.proofs.States.Members.{IsOnce, once-rest}
use Rattle.kc_types.specs.declared.link.Link.{Link}
use Rattle.kc_links.specs.Chain.{Links, with_link, or_unlinked, pointing_forward, pointing_back, first_or, last_or, NamesNeighbours}
use Rattle.kc_links.proofs.Times.{times-same, times-other, once-first}

pub with_link-same : (m : Links) (f : ℕ) (link : Link) → with_link m f link f ≡ Some link
with_link-same m f link = rw (eq-eqb f f refl) refl

pub with_link-other : (m : Links) (f : ℕ) (link : Link) (g : ℕ) → (g ≡ f → ⊥) → with_link m f link g ≡ m g
with_link-other m f link g other = rw (ne_eqb g f other) refl

pub forward-other : (m : Links) (at next : Option ℕ) (g : ℕ) → (at ≡ Some g → ⊥) → pointing_forward m at next g ≡ m g
forward-other m None next g other = refl
forward-other m (Some f) next g other = with_link-other m f _ g (λ e. other (ap Some (sym e)))

pub back-other : (m : Links) (at prev : Option ℕ) (g : ℕ) → (at ≡ Some g → ⊥) → pointing_back m at prev g ≡ m g
back-other m None prev g other = refl
back-other m (Some f) prev g other = with_link-other m f _ g (λ e. other (ap Some (sym e)))

pub first-where : (after : Option ℕ) (fs : List ℕ) (g : ℕ) → first_or after fs ≡ Some g → (after ≡ Some g) ⊎ (0 < times_in fs g)
first-where after [] g is = inl is
first-where after (f ∷ fs) g is = inr (let e : f ≡ g = cc in let t = times-same f fs in rw (← e) (omega (arith, t)))

pub last-where : (before : Option ℕ) (fs : List ℕ) (g : ℕ) → last_or before fs ≡ Some g → (before ≡ Some g) ⊎ (0 < times_in fs g)
last-where before [] g is = inl is
last-where before (f ∷ fs) g is = inr (elim (last-where (Some f) fs g is) [
  | inl here ↦ let e : f ≡ g = cc in let t = times-same f fs in rw (← e) (omega (arith, t))
  | inr later ↦ omega arith
])

pub first-append : (after : Option ℕ) (a b : List ℕ) → first_or after (a ++ b) ≡ first_or (first_or after b) a
first-append after [] b = refl
first-append after (x ∷ xs) b = refl

pub last-append : (before : Option ℕ) (a b : List ℕ) → last_or before (a ++ b) ≡ last_or (last_or before a) b
last-append before [] b = refl
last-append before (x ∷ xs) b = last-append (Some x) xs b

pub linked-same : (m n : Links) (before : Option ℕ) (fs : List ℕ) (after : Option ℕ) → NamesNeighbours m before fs after → ((g : ℕ) → 0 < times_in fs g → n g ≡ m g) → NamesNeighbours n before fs after
linked-same m n before [] after linked same = tt
linked-same m n before (f ∷ fs) after linked same =
    (same f (let t = times-same f fs in omega (arith, t)) ∙ linked.0, linked-same m n (Some f) fs after linked.1 (λ g some. same g (omega arith)))

pub linked-holds : (m : Links) (before : Option ℕ) (fs : List ℕ) (after : Option ℕ) (g : ℕ) → NamesNeighbours m before fs after → 0 < times_in fs g → IsSome (m g)
linked-holds m before [] after g linked some = absurd (omega arith)
linked-holds m before (f ∷ fs) after g linked some = elim (cases_eq g f) [
  | inl same ↦ rw (same, linked.0) refl
  | inr other ↦ linked-holds m (Some f) fs after g linked.1 (rw (times-other f fs g other) at some)
]

pub linked-split : (m : Links) (before : Option ℕ) (a b : List ℕ) (after : Option ℕ) → NamesNeighbours m before (a ++ b) after → NamesNeighbours m before a (first_or after b) × NamesNeighbours m (last_or before a) b after
linked-split m before [] b after linked = (tt, linked)
linked-split m before (f ∷ fs) b after linked =
    let rest = linked-split m (Some f) fs b after linked.1 in
    ((linked.0 ∙ ap (λ next. Some (record { prev = before; next = next })) (first-append after fs b), rest.0), rest.1)

pub linked-join : (m : Links) (before : Option ℕ) (a b : List ℕ) (after : Option ℕ) → NamesNeighbours m before a (first_or after b) → NamesNeighbours m (last_or before a) b after → NamesNeighbours m before (a ++ b) after
linked-join m before [] b after front back = back
linked-join m before (f ∷ fs) b after front back =
    (front.0 ∙ ap (λ next. Some (record { prev = before; next = next })) (sym (first-append after fs b)), linked-join m (Some f) fs b after front.1 back)

-- the frame after the last one is another
pub linked-forward : (m : Links) (before : Option ℕ) (fs : List ℕ) (after next : Option ℕ) → NamesNeighbours m before fs after → IsOnce fs → NamesNeighbours (pointing_forward m (last_or before fs) next) before fs next
linked-forward m before [] after next linked once = tt
linked-forward m before (f ∷ []) after next linked once =
    (with_link-same m f _ ∙ ap (λ link. Some (record (or_unlinked link) { next = next })) linked.0, tt)
linked-forward m before (f ∷ g ∷ gs) after next linked once = (
  forward-other m (last_or (Some g) gs) next f (λ last. let none = once-first f (g ∷ gs) once in elim (last-where (Some g) gs f last) [
    | inl here ↦ let e : g ≡ f = cc in let t : times_in (g ∷ gs) f ≡ 1 + times_in gs f = rw (← e) (times-same g gs) in absurd (omega (arith, none, t))
    | inr later ↦ absurd (omega arith)
  ]) ∙ linked.0,
  linked-forward m (Some f) (g ∷ gs) after next linked.1 (once-rest f (g ∷ gs) once),
)

-- the frame before the first one is another
pub linked-back : (m : Links) (before : Option ℕ) (fs : List ℕ) (after prev : Option ℕ) → NamesNeighbours m before fs after → IsOnce fs → NamesNeighbours (pointing_back m (first_or after fs) prev) prev fs after
linked-back m before [] after prev linked once = tt
linked-back m before (f ∷ fs) after prev linked once = (
  with_link-same m f _ ∙ ap (λ link. Some (record (or_unlinked link) { prev = prev })) linked.0,
  linked-same m _ (Some f) fs after linked.1 (λ g some. with_link-other m f _ g (λ same. let none = once-first f fs once in let some_f : 0 < times_in fs f = rw same at some in absurd (omega arith))),
)
