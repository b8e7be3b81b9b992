-- The lists of workers with one more item, or one fewer.
use Rattle.std.proofs.Common.{ℕ, zero, suc, ◌≡◌, ◌≢◌, ◌<◌, ◌⊎◌, inl, inr, true, false, List, [], ◌∷◌, ◌++◌, length, length-append, get_or, set, map, replicate, All, refl, sym, ap, subst, ◌∙◌, arith}
use Rattle.std.specs.Prelude.{◌%◌, ◌==◌, if◌then◌else◌, Bool}
use Rattle.std.specs.List.{AllZip}
use Rattle.std.proofs.lemmas.Bool.{cases_eq, ne_eqb}
use Rattle.std.proofs.lemmas.List.{length-set, length-map, map-set, set-get_or, get_or-map, get_or-set_same, get_or-set_other}
use Rattle.std.proofs.lemmas.Nat.{mod_below}
use Rattle.kc_model.proofs.States.Members.{same_number}
use Rattle.kc_model.proofs.States.Slots.{get_or-same}
use Rattle.kc_replay.specs.Dealing.{dealt_to, AreDealt, with_dealt}
use Rattle.kc_replay.proofs.Zips.{zip_push, zip_last, zip_length, zip_get, zip_through}

chosen : {X : Type 0} (test : Bool) (x y : X) → test ≡ true → (if test then x else y) ≡ x
chosen test x y e = rw e refl

left-out : {X : Type 0} (test : Bool) (x y : X) → test ≡ false → (if test then x else y) ≡ y
left-out test x y e = rw e refl

dealt-this : (n p : ℕ) → dealt_to n (p % n) (suc p) ≡ dealt_to n (p % n) p ++ p ∷ []
unfolding dealt_to
dealt-this n p = chosen (p % n == p % n) (dealt_to n (p % n) p ++ p ∷ []) (dealt_to n (p % n) p) (same_number (p % n))

dealt-other : (n w p : ℕ) → w ≢ p % n → dealt_to n w (suc p) ≡ dealt_to n w p
unfolding dealt_to
dealt-other n w p other = left-out (p % n == w) (dealt_to n w p ++ p ∷ []) (dealt_to n w p) (ne_eqb (p % n) w (λ e. other (sym e)))

module _ {T : Type 0} (R : ℕ → T → Type 0) where
  -- no call is dealt yet
  pub dealt-none : (n : ℕ) → AreDealt R 0 (replicate n [])
  unfolding dealt_to
  dealt-none n w low = subst (λ (ts : List T). AllZip R [] ts) (sym (get_or-same n [] w)) tt

  -- each worker's list, for this number of workers
  more-at : (n p w : ℕ) (lists : List (List T)) (t : T) → length lists ≡ n → 0 < n → ((v : ℕ) → v < n → AllZip R (dealt_to n v p) (get_or lists v [])) → R p t → w < n → ((w ≡ p % n) ⊎ (w ≢ p % n))
      → AllZip R (dealt_to n w (suc p)) (get_or (set lists (p % n) (get_or lists (p % n) [] ++ t ∷ [])) w [])
  more-at n p w lists t is some all one low (inl same) =
      let below : p % n < n = mod_below p n some in
      let there : p % n < length lists = omega (arith, below, is) in
      subst (λ v. AllZip R (dealt_to n v (suc p)) (get_or (set lists (p % n) (get_or lists (p % n) [] ++ t ∷ [])) v [])) (sym same)
      (subst (λ (ps : List ℕ). AllZip R ps (get_or (set lists (p % n) (get_or lists (p % n) [] ++ t ∷ [])) (p % n) [])) (sym (dealt-this n p))
      (subst (λ (ts : List T). AllZip R (dealt_to n (p % n) p ++ p ∷ []) ts) (sym (get_or-set_same lists (p % n) (get_or lists (p % n) [] ++ t ∷ []) [] there))
      (zip_push R (dealt_to n (p % n) p) (get_or lists (p % n) []) p t (all (p % n) below) one)))
  more-at n p w lists t is some all one low (inr other) =
      subst (λ (ps : List ℕ). AllZip R ps (get_or (set lists (p % n) (get_or lists (p % n) [] ++ t ∷ [])) w [])) (sym (dealt-other n w p other))
      (subst (λ (ts : List T). AllZip R (dealt_to n w p) ts) (sym (get_or-set_other lists (p % n) w (get_or lists (p % n) [] ++ t ∷ []) [] other)) (all w low))

  pub dealt-more : (p : ℕ) (lists : List (List T)) (t : T) → 0 < length lists → AreDealt R p lists → R p t → AreDealt R (suc p) (with_dealt lists p t)
  dealt-more p lists t some all one w low =
      let size : length (with_dealt lists p t) ≡ length lists = length-set lists (p % length lists) (get_or lists (p % length lists) [] ++ t ∷ []) in
      subst (λ n. AllZip R (dealt_to n w (suc p)) (get_or (with_dealt lists p t) w [])) (sym size)
      (more-at (length lists) p w lists t refl some all one (omega (arith, low, size)) (cases_eq w (p % length lists)))

  -- the list of the last call's worker is not empty
  pub dealt-some : (p : ℕ) (lists : List (List T)) → 0 < length lists → AreDealt R (suc p) lists → 0 < length (get_or lists (p % length lists) [])
  dealt-some p lists some all =
      let size = zip_length R (dealt_to (length lists) (p % length lists) (suc p)) (get_or lists (p % length lists) []) (all (p % length lists) (mod_below p (length lists) some)) in
      let more = ap length (dealt-this (length lists) p) ∙ length-append (dealt_to (length lists) (p % length lists) p) (p ∷ []) in
      omega (arith, size, more)

  -- the last call's item is taken back
  module _ (p : ℕ) (lists left : List (List T)) (t : T) (some : 0 < length lists) (size : length left ≡ length lists) (is : lists ≡ with_dealt left p t) (all : AreDealt R (suc p) lists) where
    here : p % (length lists) < length left
    here = let below = mod_below p (length lists) some in omega (arith, below, size)

    lists-at : (w : ℕ) → get_or lists w [] ≡ get_or (set left (p % (length lists)) (get_or left (p % (length lists)) [] ++ t ∷ [])) w []
    lists-at w = ap (λ (ls : List (List T)). get_or ls w []) is ∙ ap (λ k. get_or (set left (p % k) (get_or left (p % k) [] ++ t ∷ [])) w []) size

    last : AllZip R (dealt_to (length lists) (p % (length lists)) p ++ p ∷ []) (get_or left (p % (length lists)) [] ++ t ∷ [])
    last =
        subst (λ (ts : List T). AllZip R (dealt_to (length lists) (p % (length lists)) p ++ p ∷ []) ts) (lists-at (p % (length lists)) ∙ get_or-set_same left (p % (length lists)) (get_or left (p % (length lists)) [] ++ t ∷ []) [] here)
        (subst (λ (ps : List ℕ). AllZip R ps (get_or lists (p % (length lists)) [])) (dealt-this (length lists) p) (all (p % (length lists)) (mod_below p (length lists) some)))

    both : AllZip R (dealt_to (length lists) (p % (length lists)) p) (get_or left (p % (length lists)) []) × R p t
    both = zip_last R (dealt_to (length lists) (p % (length lists)) p) (get_or left (p % (length lists)) []) p t last

    pub taken-back : R p t
    taken-back = both.1

    fewer-at : (w : ℕ) → w < (length lists) → ((w ≡ p % (length lists)) ⊎ (w ≢ p % (length lists))) → AllZip R (dealt_to (length lists) w p) (get_or left w [])
    fewer-at w low (inl same) = subst (λ v. AllZip R (dealt_to (length lists) v p) (get_or left v [])) (sym same) both.0
    fewer-at w low (inr other) =
        subst (λ (ts : List T). AllZip R (dealt_to (length lists) w p) ts) (lists-at w ∙ get_or-set_other left (p % (length lists)) w (get_or left (p % (length lists)) [] ++ t ∷ []) [] other)
        (subst (λ (ps : List ℕ). AllZip R ps (get_or lists w [])) (dealt-other (length lists) w p other) (all w low))

    pub dealt-fewer : AreDealt R p left
    dealt-fewer w low = subst (λ k. AllZip R (dealt_to k w p) (get_or left w [])) (sym size) (fewer-at w (omega (arith, low, size)) (cases_eq w (p % (length lists))))

module _ {A B : Type 0} (R : A → B → Type 0) (P : B → Type 0) (f : (a : A) (b : B) → R a b → P b) where
  -- what follows from each item holds of all
  all-zipped : (xs : List A) (ys : List B) → AllZip R xs ys → All P ys
  all-zipped [] [] zip k d low = absurd (omega (arith, low))
  all-zipped [] (y ∷ ys) zip k d low = absurd zip
  all-zipped (x ∷ xs) [] zip k d low = absurd (omega (arith, low))
  all-zipped (x ∷ xs) (y ∷ ys) zip zero d low = f x y zip.0
  all-zipped (x ∷ xs) (y ∷ ys) zip (suc k) d low = all-zipped xs ys zip.1 k d (omega (arith, low))

module _ {L T : Type 0} (items : L → List T) (R : ℕ → T → Type 0) (count : ℕ) (lists : List L) (all : AreDealt R count (map items lists)) where
  size : length (map items lists) ≡ length lists
  size = length-map lists items

  list-of : (k : ℕ) (d : L) → k < length lists → AllZip R (dealt_to (length (map items lists)) k count) (items (get_or lists k d))
  list-of k d low =
      subst (λ (ts : List T). AllZip R (dealt_to (length (map items lists)) k count) ts) (get_or-map items lists k d [] low)
      (all k (omega (arith, low, size)))

  pub all-dealt : (P : T → Type 0) → ((i : ℕ) (t : T) → R i t → P t) → All (λ l. All P (items l)) lists
  all-dealt P f k d low = all-zipped R P f (dealt_to (length (map items lists)) k count) (items (get_or lists k d)) (list-of k d low)

  -- and what workers make of their lists is dealt as the lists are
  module _ {M F : Type 0} (made : M → List F) (Q : T → F → Type 0) (S : ℕ → F → Type 0) (f : (i : ℕ) (t : T) (f : F) → R i t → Q t f → S i f) (done : List M) (zip : AllZip (λ l m. AllZip Q (items l) (made m)) lists done) where
    same : length done ≡ length lists
    same = zip_length (λ l m. AllZip Q (items l) (made m)) lists done zip

    sizes : length (map made done) ≡ length (map items lists)
    sizes = length-map done made ∙ same ∙ sym size

    made-of : (w : ℕ) (l : L) (m : M) → w < length done → AllZip S (dealt_to (length (map made done)) w count) (get_or (map made done) w [])
    made-of w l m low =
        subst (λ (fs : List F). AllZip S (dealt_to (length (map made done)) w count) fs) (sym (get_or-map made done w m [] low))
        (subst (λ n. AllZip S (dealt_to n w count) (made (get_or done w m))) (sym sizes)
        (zip_through R Q S f (dealt_to (length (map items lists)) w count) (items (get_or lists w l)) (made (get_or done w m))
        (list-of w l (omega (arith, low, same))) (zip_get (λ l m. AllZip Q (items l) (made m)) lists done zip w l m low)))

pub dealt-through : {L T M F : Type 0} (items : L → List T) (made : M → List F) (R : ℕ → T → Type 0) (Q : T → F → Type 0) (S : ℕ → F → Type 0) → ((i : ℕ) (t : T) (f : F) → R i t → Q t f → S i f)
    → (count : ℕ) (lists : List L) (done : List M) → AreDealt R count (map items lists) → AllZip (λ l m. AllZip Q (items l) (made m)) lists done → AreDealt S count (map made done)
dealt-through items made R Q S f count [] [] all zip w low = absurd (omega (arith, low))
dealt-through items made R Q S f count [] (m ∷ ms) all zip w low = absurd zip
dealt-through items made R Q S f count (l ∷ ls) [] all zip w low = absurd zip
dealt-through items made R Q S f count (l ∷ ls) (m ∷ ms) all zip w low =
    let sizes = length-map (m ∷ ms) made in
    made-of items R count (l ∷ ls) all made Q S f (m ∷ ms) zip w l m (omega (arith, low, sizes))

set_again : {X : Type 0} (xs : List X) (i : ℕ) (a b : X) → set (set xs i a) i b ≡ set xs i b
set_again [] i a b = refl
set_again (x ∷ xs) zero a b = refl
set_again (x ∷ xs) (suc i) a b = ap (λ ys. x ∷ ys) (set_again xs i a b)

-- one worker's list, as it was and as it is left
module _ {L T : Type 0} (items : L → List T) (lists : List L) (place n : ℕ) (one left : L) (t : T) (is : n ≡ length lists) (some : 0 < length lists) (here : one ≡ get_or lists (place % n) one) where
  low : place % n < length lists
  low = let below = mod_below place n (omega (arith, is, some)) in omega (arith, below, is)

  count : n ≡ length (map items lists)
  count = is ∙ sym (length-map lists items)

  found : get_or (map items lists) (place % n) [] ≡ items one
  found = get_or-map items lists (place % n) one [] low ∙ ap items (sym here)

  lengthened : (ms : List (List T)) → n ≡ length ms → set ms (place % n) (get_or ms (place % n) [] ++ t ∷ []) ≡ with_dealt ms place t
  lengthened ms e = ap (λ k. set ms (place % k) (get_or ms (place % k) [] ++ t ∷ [])) e

  pub pushed : items left ≡ items one ++ t ∷ [] → map items (set lists (place % n) left) ≡ with_dealt (map items lists) place t
  pushed e = map-set items lists (place % n) left ∙ ap (set (map items lists) (place % n)) (e ∙ ap (λ xs. xs ++ t ∷ []) (sym found)) ∙ lengthened (map items lists) count

  pub popped : items one ≡ items left ++ t ∷ [] → map items lists ≡ with_dealt (map items (set lists (place % n) left)) place t
  popped e =
      let after : List (List T) = set (map items lists) (place % n) (items left) in
      let is_left : get_or after (place % n) [] ≡ items left = get_or-set_same (map items lists) (place % n) (items left) [] (let size = length-map lists items in let at = low in omega (arith, at, size)) in
      sym (set-get_or (map items lists) (place % n) [])
      ∙ ap (set (map items lists) (place % n)) (found ∙ e ∙ ap (λ xs. xs ++ t ∷ []) (sym is_left))
      ∙ sym (set_again (map items lists) (place % n) (items left) (get_or after (place % n) [] ++ t ∷ []))
      ∙ lengthened after (count ∙ sym (length-set (map items lists) (place % n) (items left)))
      ∙ ap (λ ms. with_dealt ms place t) (sym (map-set items lists (place % n) left))
