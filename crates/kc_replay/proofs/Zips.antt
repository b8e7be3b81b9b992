use Rattle.std.proofs.Common.{ℕ, zero, suc, ◌≡◌, ◌<◌, length, get_or, arith, refl, ap, List, [], ◌∷◌, ◌++◌}
use Rattle.std.specs.List.{AllZip}

pub zip_push : {A B : Type 0} (R : A → B → Type 0) (xs : List A) (ys : List B) (x : A) (y : B) → AllZip R xs ys → R x y → AllZip R (xs ++ x ∷ []) (ys ++ y ∷ [])
zip_push R [] [] x y h r = (r, tt)
zip_push R [] (b ∷ ys) x y h r = absurd h
zip_push R (a ∷ xs) [] x y h r = absurd h
zip_push R (a ∷ xs) (b ∷ ys) x y h r = (h.0, zip_push R xs ys x y h.1 r)

-- through the middle list
pub zip_through : {A B C : Type 0} (P : A → B → Type 0) (Q : B → C → Type 0) (R : A → C → Type 0) → ((a : A) (b : B) (c : C) → P a b → Q b c → R a c)
    → (xs : List A) (ys : List B) (zs : List C) → AllZip P xs ys → AllZip Q ys zs → AllZip R xs zs
zip_through P Q R f [] [] [] p q = tt
zip_through P Q R f [] [] (z ∷ zs) p q = absurd q
zip_through P Q R f [] (y ∷ ys) zs p q = absurd p
zip_through P Q R f (x ∷ xs) [] zs p q = absurd p
zip_through P Q R f (x ∷ xs) (y ∷ ys) [] p q = absurd q
zip_through P Q R f (x ∷ xs) (y ∷ ys) (z ∷ zs) p q = (f x y z p.0 q.0, zip_through P Q R f xs ys zs p.1 q.1)

pub zip_last : {A B : Type 0} (R : A → B → Type 0) (xs : List A) (ys : List B) (x : A) (y : B) → AllZip R (xs ++ x ∷ []) (ys ++ y ∷ []) → AllZip R xs ys × R x y
zip_last R [] [] x y h = (tt, h.0)
zip_last R [] (b ∷ []) x y h = absurd h.1
zip_last R [] (b ∷ c ∷ ys) x y h = absurd h.1
zip_last R (a ∷ []) [] x y h = absurd h.1
zip_last R (a ∷ c ∷ xs) [] x y h = absurd h.1
zip_last R (a ∷ xs) (b ∷ ys) x y h = let rest = zip_last R xs ys x y h.1 in ((h.0, rest.0), rest.1)

pub zip_length : {A B : Type 0} (R : A → B → Type 0) (xs : List A) (ys : List B) → AllZip R xs ys → length ys ≡ length xs
zip_length R [] [] h = refl
zip_length R [] (b ∷ ys) h = absurd h
zip_length R (a ∷ xs) [] h = absurd h
zip_length R (a ∷ xs) (b ∷ ys) h = ap suc (zip_length R xs ys h.1)

pub zip_get : {A B : Type 0} (R : A → B → Type 0) (xs : List A) (ys : List B) → AllZip R xs ys → (k : ℕ) (a : A) (b : B) → k < length ys → R (get_or xs k a) (get_or ys k b)
zip_get R [] [] h k a b low = absurd (omega (arith, low))
zip_get R [] (y ∷ ys) h k a b low = absurd h
zip_get R (x ∷ xs) [] h k a b low = absurd (omega (arith, low))
zip_get R (x ∷ xs) (y ∷ ys) h zero a b low = h.0
zip_get R (x ∷ xs) (y ∷ ys) h (suc k) a b low = zip_get R xs ys h.1 k a b (omega (arith, low))
