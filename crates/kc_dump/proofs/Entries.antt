-- What a table maps, by its entries and by look-ups.
use Rattle.std.proofs.Common.{ℕ, zero, suc, ◌≡◌, ◌<◌, inl, inr, Bool, true, false, ◌&&◌, ◌||◌, cond, List, [], ◌∷◌, length, get_or, Some, nat_eq, eq-eqb, refl, sym, ap, subst, ◌∙◌, arith}
use Rattle.std.specs.Prelude.{◌↔◌, ◌==◌, T}
use Rattle.std.specs.List.{list_any}
use Rattle.std.proofs.lemmas.Bool.{cases_eq, ne_eqb, eqb-true}
use Rattle.std.proofs.lemmas.Option.{same_Some}
use Rattle.std.specs.declared.cmp.Ordering.{Ordering}
use Rattle.std.specs.declared.cmp.Ordering.TheVariants.{Less, Equal, Greater}
use Rattle.std.specs.Ordering.{nat_cmp, is_lt, eq_by_cmp}
use Rattle.std.specs.Cmp.{ranked}
use Rattle.std.specs.FinMap.{FinMap, entries, get, get-entries, entries_sorted}
use Rattle.std.specs.FinMap.Entries.{find, below_all, is_sorted}
use Rattle.kc_vms.proofs.Maps.{keys-same, keys-other}

abbrev is_entry : ℕ → ℕ → ℕ × ℕ → Bool
is_entry g f e = e.0 == g && e.1 == f

pub left : (a b : Bool) → T (a && b) → T a
left true b h = tt
left false b h = h

pub right : (a b : Bool) → T (a && b) → T b
right true b h = h
right false b h = absurd h

pub above : (x y : ℕ) (o : Ordering) → nat_cmp x y ≡ o → T (is_lt o) → x < y
above x y Less is h = ranked x y Less (sym is)
above x y Equal is h = absurd h
above x y Greater is h = absurd h

none-below : (g f : ℕ) (es : List (ℕ × ℕ)) → T (below_all nat_cmp g es) → list_any (is_entry g f) es ≡ false
none-below g f [] h = refl
none-below g f (e ∷ es) h =
    let low : g < e.0 = above g e.0 (nat_cmp g e.0) refl (left _ _ h) in
    rw (ne_eqb e.0 g (λ same. omega (arith, low, same))) (none-below g f es (right _ _ h))

either-way : (a b c : Bool) → a ≡ true → c ≡ false → ((a && b) || c) ≡ b
either-way true true false x y = refl
either-way true false false x y = refl
either-way true b true x y = cc
either-way false b c x y = cc

entry-find : (g f : ℕ) (es : List (ℕ × ℕ)) → T (is_sorted nat_cmp es) → (list_any (is_entry g f) es ≡ true) ↔ (find nat_cmp g es ≡ Some f)
entry-find g f [] h = (λ t. cc, λ t. cc)
entry-find g f (e ∷ es) h = elim (cases_eq e.0 g) [
  | inl same ↦
      let tied : eq_by_cmp nat_cmp g e.0 ≡ true = rw same (keys-same g) in
      let here : find nat_cmp g (e ∷ es) ≡ Some e.1 = ap (λ b. cond b (Some e.1) (find nat_cmp g es)) tied in
      let any : list_any (is_entry g f) (e ∷ es) ≡ nat_eq e.1 f = either-way (nat_eq e.0 g) (nat_eq e.1 f) (list_any (is_entry g f) es) (eq-eqb e.0 g same) (none-below g f es (subst (λ k. T (below_all nat_cmp k es)) same (left (below_all nat_cmp e.0 es) (is_sorted nat_cmp es) h))) in (
        λ t. here ∙ ap Some (eqb-true e.1 f (sym any ∙ t)),
        λ t. any ∙ eq-eqb e.1 f (same_Some e.1 f (sym here ∙ t)),
      )
  | inr other ↦
      let here : find nat_cmp g (e ∷ es) ≡ find nat_cmp g es = ap (λ b. cond b (Some e.1) (find nat_cmp g es)) (keys-other g e.0 (λ s. other (sym s))) in
      let any : list_any (is_entry g f) (e ∷ es) ≡ list_any (is_entry g f) es = ap (λ b. (b && nat_eq e.1 f) || list_any (is_entry g f) es) (ne_eqb e.0 g other) in
      let rest = entry-find g f es (right (below_all nat_cmp e.0 es) (is_sorted nat_cmp es) h) in (
        λ t. here ∙ rest.0 (sym any ∙ t),
        λ t. any ∙ rest.1 (sym here ∙ t),
      )
]

-- an entry is in the list exactly if looking it up in the map gives it
pub entry-get : (m : FinMap nat_cmp ℕ) (g f : ℕ) → (list_any (λ (e : ℕ × ℕ). e.0 == g && e.1 == f) (entries m) ≡ true) ↔ (get m g ≡ Some f)
entry-get m g f = rw (get-entries m g) (entry-find g f (entries m) (entries_sorted m))

-- the place of an entry in the list
pub record EntryPlace (es : List (ℕ × ℕ)) (g f : ℕ) (d : ℕ × ℕ) : Type 0 where
  pub place : ℕ
  pub within : place < length es
  pub gfn : (get_or es place d).0 ≡ g
  pub frame : (get_or es place d).1 ≡ f

later : (e : ℕ × ℕ) (es : List (ℕ × ℕ)) (g f : ℕ) (d : ℕ × ℕ) → EntryPlace es g f d → EntryPlace (e ∷ es) g f d
later e es g f d p = record { place = suc p.place; within = let l = p.within in omega (arith, l); gfn = p.gfn; frame = p.frame }

pub entry-place : (es : List (ℕ × ℕ)) (g f : ℕ) (d : ℕ × ℕ) → list_any (is_entry g f) es ≡ true → EntryPlace es g f d
entry-place [] g f d h = cc
entry-place (e ∷ es) g f d h = by_test (nat_eq e.0 g) (nat_eq e.1 f) refl refl h (entry-place es g f d)
  where
    by_test : (a b : Bool) → nat_eq e.0 g ≡ a → nat_eq e.1 f ≡ b → ((a && b) || list_any (is_entry g f) es) ≡ true → (list_any (is_entry g f) es ≡ true → EntryPlace es g f d) → EntryPlace (e ∷ es) g f d
    by_test true true x y h rest = record { place = 0; within = omega arith; gfn = eqb-true e.0 g x; frame = eqb-true e.1 f y }
    by_test true false x y h rest = later e es g f d (rest h)
    by_test false b x y h rest = later e es g f d (rest h)

pub place-entry : (es : List (ℕ × ℕ)) (k : ℕ) (d : ℕ × ℕ) → k < length es → list_any (is_entry (get_or es k d).0 (get_or es k d).1) es ≡ true
place-entry [] k d low = absurd (omega (arith, low))
place-entry (e ∷ es) zero d low = rw (eq-eqb e.0 e.0 refl, eq-eqb e.1 e.1 refl) refl
place-entry (e ∷ es) (suc k) d low = or-right _ _ (place-entry es k d (omega (arith, low)))
  where
    or-right : (a b : Bool) → b ≡ true → (a || b) ≡ true
    or-right true b h = refl
    or-right false b h = h
