-- The elements at the places of numbers.
use Rattle.std.proofs.Common.{ℕ, zero, suc, ◌≡◌, ◌≢◌, ◌<◌, Bool, true, false, cond, ◌||◌, nat_eq, List, [], ◌∷◌, length, get_or, set, replicate, Option, Some, None, refl, sym, ◌∙◌, ap, arith}
use Rattle.std.proofs.lemmas.Bool.{ne_eqb, eqb-true}
use Rattle.kc_vms.specs.Vm.{VmSlot}
use Rattle.kc_parts.specs.Parts.{IsRising, AreHeldSlots, HasPlace, is_among, place_of, cell_in}
use Rattle.kc_parts.specs.Moves.{IsSlotWrite}
use Rattle.kc_parts.proofs.Filled.{swapped, cell-set}
use Rattle.kc_parts.proofs.Writing.{place-number}

-- what is there has a place
pub place-held : {X : Type 0} (ns : List ℕ) (cs : List (Option X)) (n : ℕ) (x : X) → cell_in ns cs n ≡ Some x → HasPlace ns n
place-held [] cs n x e = cc
place-held (m ∷ ns) [] n x e = cc
place-held (m ∷ ns) (c ∷ cs) n x e = rw (swapped m n) (by_first (nat_eq n m) e (λ later. place-held ns cs n x later))
  where
    by_first : (b : Bool) → cond b c (cell_in ns cs n) ≡ Some x → (cell_in ns cs n ≡ Some x → HasPlace ns n) → cond b 0 (suc (place_of ns n)) < suc (length ns)
    by_first true is rest = omega arith
    by_first false is rest = let low : place_of ns n < length ns = rest is in omega arith

pub place-among : (ns : List ℕ) (n : ℕ) → is_among ns n ≡ true → HasPlace ns n
place-among [] n e = cc
place-among (m ∷ ns) n e = rw (swapped m n) (by_first (nat_eq n m) e (λ later. place-among ns n later))
  where
    by_first : (b : Bool) → (b || is_among ns n) ≡ true → (is_among ns n ≡ true → HasPlace ns n) → cond b 0 (suc (place_of ns n)) < suc (length ns)
    by_first true is rest = omega arith
    by_first false is rest = let low : place_of ns n < length ns = rest is in omega arith

-- the cell of a number is at its place
pub cell_place : {X : Type 0} (ns : List ℕ) (cs : List (Option X)) (n : ℕ) → length cs ≡ length ns → cell_in ns cs n ≡ get_or cs (place_of ns n) None
cell_place [] [] n e = refl
cell_place [] (c ∷ cs) n e = absurd (omega (arith, e))
cell_place (m ∷ ns) [] n e = refl
cell_place {X} (m ∷ ns) (c ∷ cs) n e = rw (swapped m n) (by_first (nat_eq n m) (cell_place ns cs n (omega (arith, e))))
  where
    by_first : (b : Bool) → cell_in ns cs n ≡ get_or cs (place_of ns n) None → cond b c (cell_in ns cs n) ≡ get_or (c ∷ cs) (cond b 0 (suc (place_of ns n))) None
    by_first true rest = refl
    by_first false rest = rest

-- a write at the place of a number
pub cell-written : {X : Type 0} (ns : List ℕ) (cs : List (Option X)) (n m : ℕ) (x : Option X) → IsRising ns → length cs ≡ length ns → HasPlace ns n
    → cell_in ns (set cs (place_of ns n) x) m ≡ cond (nat_eq m n) x (cell_in ns cs m)
cell-written ns cs n m x up same low = cell-set ns cs (place_of ns n) m x up same low ∙ ap (λ k. cond (nat_eq m k) x (cell_in ns cs m)) (place-number ns n low)

pub cell-at_place : {X : Type 0} (ns : List ℕ) (cs : List (Option X)) (n : ℕ) (old new : X) → cell_in ns cs n ≡ Some old → cell_in ns (set cs (place_of ns n) (Some new)) n ≡ Some new
cell-at_place [] cs n old new e = cc
cell-at_place (m ∷ ns) [] n old new e = cc
cell-at_place {X} (m ∷ ns) (c ∷ cs) n old new e = rw (swapped m n) (by_first (nat_eq n m) refl e (λ later. cell-at_place ns cs n old new later))
  where
    by_first : (b : Bool) → nat_eq n m ≡ b → cond b c (cell_in ns cs n) ≡ Some old → (cell_in ns cs n ≡ Some old → cell_in ns (set cs (place_of ns n) (Some new)) n ≡ Some new)
        → cell_in (m ∷ ns) (set (c ∷ cs) (cond b 0 (suc (place_of ns n))) (Some new)) n ≡ Some new
    by_first true same is rest = rw same refl
    by_first false same is rest = rw same (rest is)

pub cell-other_place : {X : Type 0} (ns : List ℕ) (cs : List (Option X)) (n k : ℕ) (x : Option X) → k ≢ n → cell_in ns (set cs (place_of ns n) x) k ≡ cell_in ns cs k
cell-other_place [] cs n k x other = refl
cell-other_place (m ∷ ns) [] n k x other = refl
cell-other_place {X} (m ∷ ns) (c ∷ cs) n k x other = rw (swapped m n) (by_first (nat_eq n m) refl (cell-other_place ns cs n k x other))
  where
    by_first : (b : Bool) → nat_eq n m ≡ b → cell_in ns (set cs (place_of ns n) x) k ≡ cell_in ns cs k
        → cell_in (m ∷ ns) (set (c ∷ cs) (cond b 0 (suc (place_of ns n))) x) k ≡ cond (nat_eq k m) c (cell_in ns cs k)
    by_first true same rest = rw (ne_eqb k m (λ is. other (is ∙ sym (eqb-true n m same)))) refl
    by_first false same rest = ap (cond (nat_eq k m) c) rest

-- writing an element back changes nothing
pub cell-same : {X : Type 0} (ns : List ℕ) (cs : List (Option X)) (n : ℕ) (x : X) → cell_in ns cs n ≡ Some x → set cs (place_of ns n) (Some x) ≡ cs
cell-same [] cs n x e = cc
cell-same (m ∷ ns) [] n x e = cc
cell-same {X} (m ∷ ns) (c ∷ cs) n x e = rw (swapped m n) (by_first (nat_eq n m) e (λ later. cell-same ns cs n x later))
  where
    by_first : (b : Bool) → cond b c (cell_in ns cs n) ≡ Some x → (cell_in ns cs n ≡ Some x → set cs (place_of ns n) (Some x) ≡ cs) → set (c ∷ cs) (cond b 0 (suc (place_of ns n))) (Some x) ≡ c ∷ cs
    by_first true is rest = ap (λ d. d ∷ cs) (sym is)
    by_first false is rest = ap (λ ds. c ∷ ds) (rest is)

either-way : {A : Type 0} (b : Bool) (x : A) → cond b x x ≡ x
either-way true x = refl
either-way false x = refl

-- what is there is among the numbers
pub cell-among : {X : Type 0} (ns : List ℕ) (cs : List (Option X)) (n : ℕ) → cond (is_among ns n) (cell_in ns cs n) None ≡ cell_in ns cs n
cell-among [] cs n = refl
cell-among (m ∷ ns) [] n = either-way (nat_eq n m || is_among ns n) None
cell-among {X} (m ∷ ns) (c ∷ cs) n = by_first (nat_eq n m) (cell-among ns cs n)
  where
    by_first : (b : Bool) → cond (is_among ns n) (cell_in ns cs n) None ≡ cell_in ns cs n → cond (b || is_among ns n) (cond b c (cell_in ns cs n)) None ≡ cond b c (cell_in ns cs n)
    by_first true rest = refl
    by_first false rest = rest

-- all places have nothing
pub cell-none : {X : Type 0} (ns : List ℕ) (k n : ℕ) → cell_in {X = X} ns (replicate k None) n ≡ None
cell-none [] k n = refl
cell-none (m ∷ ns) zero n = refl
cell-none (m ∷ ns) (suc k) n = ap (cond (nat_eq n m) None) (cell-none ns k n) ∙ either-way (nat_eq n m) None

-- a write at the place of a slot
pub slot-write : (ns : List ℕ) (cs : List (Option VmSlot)) (v at : ℕ) (x : Option VmSlot) → AreHeldSlots ns cs → at ≡ place_of ns v → HasPlace ns v
    → IsSlotWrite v x (record { numbers = ns; slots = cs }) (record { numbers = ns; slots = set cs at x })
slot-write ns cs v at x held is low = record { numbers = refl; slots = λ w. rw is (cell-written ns cs v w x held.rising held.places low) }
