-- What the steps of the list calls need, and which links they leave as they are.
use Rattle.std.proofs.Common.{ℕ, ◌≡◌, ◌<◌, ◌≤◌, ◌⊎◌, inl, inr, true, false, List, [], ◌∷◌, ◌++◌, Option, Some, None, IsSome, eqb, refl, sym, ap, ◌∙◌, arith}
use Rattle.std.specs.List.{list_any, IsDistinct, AllByRecursion}
use Rattle.std.proofs.lemmas.Bool.{cases_eq, ne_eqb}
use Rattle.std.proofs.lemmas.Map.Steps.{length-le_from_distinct_below}
use Rattle.kc_types.specs.Limits.{frame_limit}
use Rattle.kc_model.specs.Lawful.{times_in}
use Rattle.kc_model.proofs.States.Members.{times_in-append, IsOnce, once-rest}
use Rattle.kc_types.specs.declared.link.Link.{Link}
use Rattle.kc_types.specs.declared.link.Ends.{Ends}
use Rattle.kc_links.specs.Chain.{Links, unlinked, Holds, pointing_forward, pointing_back}
use Rattle.kc_links.specs.Ending.{listed, IsList, KeepsOthers}
use Rattle.kc_links.proofs.Times.{times-same, times-other, once-first, around}
use Rattle.kc_links.proofs.Linked.{with_link-same, with_link-other, forward-other, back-other, first-where, last-where, linked-holds}
use Rattle.kc_links.proofs.Chains.{chain-once, links_appended, links_unlinked, links_spliced, list-between}

holds-at : (m : Links) (at : Option ℕ) → ((g : ℕ) → at ≡ Some g → IsSome (m g)) → Holds m at
holds-at m None held = tt
holds-at m (Some f) held = held f refl

-- a frame at an end of the list is in it
pub tail-inside : (m : Links) (ends : Ends) (g : ℕ) → IsList m ends → ends.tail ≡ Some g → 0 < times_in (listed m ends) g
tail-inside m ends g list is = elim (last-where None (listed m ends) g (sym list.tail ∙ is)) [ inl none ↦ absurd cc | inr some ↦ some ]

pub head-inside : (m : Links) (ends : Ends) (g : ℕ) → IsList m ends → ends.head ≡ Some g → 0 < times_in (listed m ends) g
head-inside m ends g list is = elim (first-where None (listed m ends) g (sym list.head ∙ is)) [ inl none ↦ absurd cc | inr some ↦ some ]

pub inside-held : (m : Links) (ends : Ends) (g : ℕ) → IsList m ends → 0 < times_in (listed m ends) g → IsSome (m g)
inside-held m ends g list some = linked-holds m None (listed m ends) None g list.linked some

pub tail-held : (m : Links) (ends : Ends) → IsList m ends → Holds m ends.tail
tail-held m ends list = holds-at m ends.tail (λ g is. inside-held m ends g list (tail-inside m ends g list is))

pub forward-held : (m : Links) (at next : Option ℕ) (g : ℕ) → IsSome (m g) → IsSome (pointing_forward m at next g)
forward-held m None next g held = held
forward-held m (Some f) next g held = elim (cases_eq g f) [
  | inl same ↦ rw (same, with_link-same m f _) refl
  | inr other ↦ rw (with_link-other m f _ g other) held
]

-- the neighbours of a frame of the list are in it
pub neighbours-inside : (m : Links) (ends : Ends) (f : ℕ) (link : Link) (g : ℕ) → IsList m ends → 0 < times_in (listed m ends) f → m f ≡ Some link → (link.prev ≡ Some g) ⊎ (link.next ≡ Some g) → 0 < times_in (listed m ends) g
neighbours-inside m ends f link g list some is near =
    let parts = around (listed m ends) f (chain-once m ends (listed m ends) list) some in
    let here = list-between m ends f link list some is parts in
    let whole = ap (λ l. times_in l g) parts.whole ∙ times_in-append parts.before (f ∷ parts.after) g in
    elim near [
      | inl before ↦ elim (last-where None parts.before g (sym (ap (λ l. l.prev) here) ∙ before)) [ inl none ↦ absurd cc | inr there ↦ omega (arith, whole, there) ]
      | inr after ↦ elim (first-where None parts.after g (sym (ap (λ l. l.next) here) ∙ after)) [ inl none ↦ absurd cc | inr there ↦ omega (arith, whole, there) ]
    ]

pub prev-held : (m : Links) (ends : Ends) (f : ℕ) (link : Link) → IsList m ends → 0 < times_in (listed m ends) f → m f ≡ Some link → Holds m link.prev
prev-held m ends f link list some is = holds-at m link.prev (λ g near. inside-held m ends g list (neighbours-inside m ends f link g list some is (inl near)))

pub next-held : (m : Links) (ends : Ends) (f : ℕ) (link : Link) → IsList m ends → 0 < times_in (listed m ends) f → m f ≡ Some link → Holds (pointing_forward m link.prev link.next) link.next
next-held m ends f link list some is = holds-at _ link.next (λ g near.
    forward-held m link.prev link.next g (inside-held m ends g list (neighbours-inside m ends f link g list some is (inr near))))

pub append-others : (m : Links) (ends : Ends) (f : ℕ) → IsList m ends → KeepsOthers m (links_appended m ends f) (listed m ends ++ f ∷ [])
append-others m ends f list g none =
    let whole = times_in-append (listed m ends) (f ∷ []) g in
    with_link-other (pointing_forward m ends.tail (Some f)) f _ g (λ same. let one = times-same f [] in let here : times_in (f ∷ []) g ≡ 1 = rw same one in absurd (omega (arith, whole, none, here)))
    ∙ forward-other m ends.tail (Some f) g (λ is. let some = tail-inside m ends g list is in absurd (omega (arith, whole, none, some)))

pub unlink-others : (m : Links) (ends : Ends) (f : ℕ) (link : Link) → IsList m ends → 0 < times_in (listed m ends) f → m f ≡ Some link → KeepsOthers m (links_unlinked m f link) (listed m ends)
unlink-others m ends f link list some is g none =
    with_link-other (pointing_back (pointing_forward m link.prev link.next) link.next link.prev) f unlinked g (λ same. let here : times_in (listed m ends) f ≡ 0 = rw same at none in absurd (omega (arith, some, here)))
    ∙ back-other (pointing_forward m link.prev link.next) link.next link.prev g (λ near. let there = neighbours-inside m ends f link g list some is (inr near) in absurd (omega (arith, none, there)))
    ∙ forward-other m link.prev link.next g (λ near. let there = neighbours-inside m ends f link g list some is (inl near) in absurd (omega (arith, none, there)))

pub splice-others : (m : Links) (to from : Ends) → IsList m to → IsList m from → KeepsOthers m (links_spliced m to from) (listed m to ++ listed m from)
splice-others m to from list other g none =
    let whole = times_in-append (listed m to) (listed m from) g in
    back-other (pointing_forward m to.tail from.head) from.head to.tail g (λ is. let some = head-inside m from g other is in absurd (omega (arith, whole, none, some)))
    ∙ forward-other m to.tail from.head g (λ is. let some = tail-inside m to g list is in absurd (omega (arith, whole, none, some)))

-- a list of different frames below a bound is no longer than the bound
differs : (f : ℕ) (fs : List ℕ) → times_in fs f ≡ 0 → AllByRecursion (λ g. eqb f g ≡ false) fs
differs f [] none = tt
differs f (x ∷ xs) none = elim (cases_eq f x) [
  | inl same ↦ let one = times-same x xs in let here : times_in (x ∷ xs) x ≡ 0 = rw same at none in absurd (omega (arith, one, here))
  | inr other ↦ (ne_eqb f x other, differs f xs (sym (times-other x xs f other) ∙ none))
]

once-distinct : (fs : List ℕ) → IsOnce fs → IsDistinct eqb fs
unfolding IsDistinct
once-distinct [] once = tt
once-distinct (f ∷ fs) once = (differs f fs (once-first f fs once), once-distinct fs (once-rest f fs once))

any-inside : (fs : List ℕ) (g : ℕ) → list_any (eqb g) fs ≡ true → 0 < times_in fs g
any-inside [] g any = absurd cc
any-inside (f ∷ fs) g any = elim (cases_eq g f) [
  | inl same ↦ let one = times-same f fs in rw same (omega (arith, one))
  | inr other ↦ rw (times-other f fs g other) (any-inside fs g (rw (ne_eqb g f other) at any))
]

pub count-within : (m : Links) (ends : Ends) → ((f : ℕ) → IsSome (m f) → f < frame_limit) → IsList m ends → ends.count ≤ frame_limit
count-within m ends within list =
    let short = length-le_from_distinct_below (listed m ends) frame_limit (once-distinct (listed m ends) (chain-once m ends (listed m ends) list))
    (λ g any. within g (inside-held m ends g list (any-inside (listed m ends) g any))) in
    rw list.count short
