-- The owners at the start.
use Rattle.std.proofs.Common.{◌≡◌, ℕ, ◌+◌, ◌<◌, Bool, true, false, ◌&&◌, ◌||◌, nat_lt, cond, List, [], ◌∷◌, ◌++◌, length, get_or, refl, sym, ◌∙◌, ap, subst, arith, inl, inr, length-append}
use Rattle.std.specs.Prelude.{eqb, Option, Some, None}
use Rattle.std.proofs.lemmas.Bool.{and_parts, cases_lt, eq-eqb, eqb-true}
use Rattle.std.proofs.lemmas.Bool.Decides.{nat_tests}
use Rattle.std.proofs.lemmas.List.{get_or_append_left}
use Rattle.std.proofs.lemmas.List.Folds.{list_any-append}
use Rattle.std.proofs.Math.Bool.{and-false}
use Rattle.kc_types.specs.Configuration.{slot_count}
use Rattle.kc_types.specs.declared.owner.Owner.{Owner}
use Rattle.kc_types.specs.declared.owner.Owner.TheVariants as owner
use Rattle.kc_model.specs.State.{State, frame_at}
use Rattle.kc_model.specs.Lawful.{IsLawful, same_owner}
use Rattle.kc_model.proofs.States.Changes.{exists}
use Rattle.kc_footprints.specs.Reach.{is_at}
use Rattle.kc_footprints.specs.Planner.{HasOneOwnerEach, has_pair}
use Rattle.kc_footprints.specs.Owned.{IsOwned, principal_of}
use Rattle.kc_footprints.proofs.Carried.{at_below, low_too, not_past, differs}

-- the pairs are those of the frames below n
pub record IsOwnedBelow (m : State) (n : ℕ) (pairs : List (ℕ × ℕ)) : Type 0 where
  pub has : (p f : ℕ) → has_pair pairs p f ≡ (nat_lt f n && is_at (principal_of (slot_count m.config) (frame_at m f).owner) p)
  pub low : (i : ℕ) → i < length pairs → (get_or pairs i (0, 0)).0 < slot_count m.config + 1

-- one more frame
pub none_more : (m : State) (n : ℕ) (pairs : List (ℕ × ℕ)) → principal_of (slot_count m.config) (frame_at m n).owner ≡ None → IsOwnedBelow m n pairs → IsOwnedBelow m (n + 1) pairs
none_more m n pairs none so_far = record { has = λ p f. so_far.has p f ∙ by p f (eqb n f) refl; low = so_far.low }
  where
    by : (p f : ℕ) (b : Bool) → eqb n f ≡ b → (nat_lt f n && is_at (principal_of (slot_count m.config) (frame_at m f).owner) p) ≡ (nat_lt f (n + 1) && is_at (principal_of (slot_count m.config) (frame_at m f).owner) p)
    by p f true e =
        let same : n ≡ f = eqb-true n f e in
        let nothing : principal_of (slot_count m.config) (frame_at m f).owner ≡ None = subst (λ (x : ℕ). principal_of (slot_count m.config) (frame_at m x).owner ≡ None) same none in
        rw nothing (and-false (nat_lt f n) ∙ sym (and-false (nat_lt f (n + 1))))
    by p f false e = let l : nat_lt f n ≡ nat_lt f (n + 1) = grind (arith, nat_tests) in ap (λ (x : Bool). x && is_at (principal_of (slot_count m.config) (frame_at m f).owner) p) l

principal_low : (n : ℕ) (o : Owner) (q : ℕ) → principal_of n o ≡ Some q → q < n + 1
principal_low n owner.Core q e = cc
principal_low n owner.Host q e = cc
principal_low n owner.Free q e = let is : n ≡ q = cc in omega arith
principal_low n (owner.Vm v) q e = by (nat_lt v n) refl e
  where
    by : (b : Bool) → nat_lt v n ≡ b → cond b (Some v) None ≡ Some q → q < n + 1
    by true l e = let is : v ≡ q = cc in let low : v < n = grind (arith, nat_tests) in omega arith
    by false l e = cc

pub one_more : (m : State) (n q : ℕ) (pairs after : List (ℕ × ℕ)) → principal_of (slot_count m.config) (frame_at m n).owner ≡ Some q → after ≡ pairs ++ (q, n) ∷ [] → IsOwnedBelow m n pairs → IsOwnedBelow m (n + 1) after
one_more m n q pairs after some pushed so_far = rw pushed record {
  has = λ p f. list_any-append (λ (x : ℕ × ℕ). eqb x.0 p && eqb x.1 f) pairs ((q, n) ∷ []) ∙ (ap (λ (b : Bool). b || ((eqb q p && eqb n f) || false)) (so_far.has p f) ∙ by p f (eqb n f) refl);
  low = λ i low.
      let len : length (pairs ++ (q, n) ∷ []) ≡ length pairs + 1 = length-append pairs ((q, n) ∷ []) in
      elim (cases_lt i (length pairs)) [
        | inl under ↦ (let e = get_or_append_left pairs ((q, n) ∷ []) (0, 0) i under in rw e (so_far.low i under))
        | inr past ↦
            (let is : length pairs ≡ i = omega arith in
            let e : get_or (pairs ++ (q, n) ∷ []) i (0, 0) ≡ (q, n) = subst (λ (x : ℕ). get_or (pairs ++ (q, n) ∷ []) x (0, 0) ≡ (q, n)) is (last_of pairs (q, n) (0, 0)) in
            rw e (principal_low (slot_count m.config) (frame_at m n).owner q some))
      ];
}
  where
    last_of : (xs : List (ℕ × ℕ)) (y d : ℕ × ℕ) → get_or (xs ++ y ∷ []) (length xs) d ≡ y
    last_of [] y d = refl
    last_of (x ∷ xs) y d = last_of xs y d

    by : (p f : ℕ) (b : Bool) → eqb n f ≡ b → ((nat_lt f n && is_at (principal_of (slot_count m.config) (frame_at m f).owner) p) || ((eqb q p && b) || false)) ≡ (nat_lt f (n + 1) && is_at (principal_of (slot_count m.config) (frame_at m f).owner) p)
    by p f true e =
        let same : n ≡ f = eqb-true n f e in
        let is : principal_of (slot_count m.config) (frame_at m f).owner ≡ Some q = subst (λ (x : ℕ). principal_of (slot_count m.config) (frame_at m x).owner ≡ Some q) same some in
        let past : nat_lt f n ≡ false = grind (arith, nat_tests) in
        let under : nat_lt f (n + 1) ≡ true = grind (arith, nat_tests) in
        rw (is, past, under) (tidy (eqb q p))
      where
        tidy : (b : Bool) → (false || ((b && true) || false)) ≡ b
        tidy true = refl
        tidy false = refl
    by p f false e =
        let l : nat_lt f n ≡ nat_lt f (n + 1) = grind (arith, nat_tests) in
        tidy (nat_lt f n && is_at (principal_of (slot_count m.config) (frame_at m f).owner) p) (eqb q p) ∙ ap (λ (x : Bool). x && is_at (principal_of (slot_count m.config) (frame_at m f).owner) p) l
      where
        tidy : (a b : Bool) → (a || ((b && false) || false)) ≡ a
        tidy true b = refl
        tidy false true = refl
        tidy false false = refl

of_slot : (n : ℕ) (o : Owner) (v : ℕ) → v < n → is_at (principal_of n o) v ≡ same_owner o (owner.Vm v)
of_slot n owner.Core v low = refl
of_slot n owner.Host v low = refl
of_slot n owner.Free v low = differs v n low
of_slot n (owner.Vm w) v low = at_below n w v ∙ low_too n w v low

of_free : (n : ℕ) (o : Owner) → is_at (principal_of n o) n ≡ same_owner o owner.Free
of_free n owner.Core = refl
of_free n owner.Host = refl
of_free n owner.Free = eq-eqb n n refl
of_free n (owner.Vm w) = not_past n (Some w)

-- a frame that is not the core's exists
asked : (m : State) → IsLawful m → (o : Owner) → same_owner owner.Core o ≡ false → (f : ℕ) → (nat_lt f m.config.frames && same_owner (frame_at m f).owner o) ≡ same_owner (frame_at m f).owner o
asked m lawful o differs f = by (same_owner (frame_at m f).owner o) refl
  where
    by : (b : Bool) → same_owner (frame_at m f).owner o ≡ b → (nat_lt f m.config.frames && b) ≡ b
    by true e =
        let low : f < m.config.frames = rw lawful.frames at (exists m f (λ core. let no : same_owner (frame_at m f).owner o ≡ false = ap (λ x. same_owner x o) core ∙ differs in cc)) in
        let is : nat_lt f m.config.frames ≡ true = grind (arith, nat_tests) in rw is refl
    by false e = and-false (nat_lt f m.config.frames)

pub all_owned : (m : State) (n : ℕ) (pairs : List (ℕ × ℕ)) → IsLawful m → n ≡ m.config.frames → IsOwnedBelow m n pairs → IsOwned m pairs
all_owned m n pairs lawful all so_far = record {
  by_slot = λ v f low.
      let h : has_pair pairs v f ≡ (nat_lt f m.config.frames && is_at (principal_of (slot_count m.config) (frame_at m f).owner) v) = rw all at (so_far.has v f) in
      h ∙ (ap (λ (x : Bool). nat_lt f m.config.frames && x) (of_slot (slot_count m.config) (frame_at m f).owner v low) ∙ asked m lawful (owner.Vm v) refl f);
  by_free = λ f.
      let h : has_pair pairs (slot_count m.config) f ≡ (nat_lt f m.config.frames && is_at (principal_of (slot_count m.config) (frame_at m f).owner) (slot_count m.config)) = rw all at (so_far.has (slot_count m.config) f) in
      h ∙ (ap (λ (x : Bool). nat_lt f m.config.frames && x) (of_free (slot_count m.config) (frame_at m f).owner) ∙ asked m lawful owner.Free refl f);
}

same_at : (o : Option ℕ) (p q : ℕ) → is_at o p ≡ true → is_at o q ≡ true → p ≡ q
same_at None p q h g = cc
same_at (Some x) p q h g = sym (eqb-true x p h) ∙ eqb-true x q g

pub one_owner : (m : State) (n : ℕ) (pairs : List (ℕ × ℕ)) → IsOwnedBelow m n pairs → HasOneOwnerEach pairs
one_owner m n pairs so_far = record {
  same = λ p q f h g.
      same_at (principal_of (slot_count m.config) (frame_at m f).owner) p q
      (and_parts (nat_lt f n) (is_at (principal_of (slot_count m.config) (frame_at m f).owner) p) (sym (so_far.has p f) ∙ h)).1
      (and_parts (nat_lt f n) (is_at (principal_of (slot_count m.config) (frame_at m f).owner) q) (sym (so_far.has q f) ∙ g)).1;
}
