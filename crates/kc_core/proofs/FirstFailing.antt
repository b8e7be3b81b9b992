-- Finding the first element that fails a test, place by place.
use Rattle.std.proofs.Common.{ℕ, zero, suc, ◌≡◌, ◌<◌, ◌+◌, Bool, true, false, cond, Option, Some, None, List, [], ◌∷◌, All, length, get_or, take, map, refl, ap, ap₂, ◌∙◌, arith}
use Rattle.std.specs.Option.{option_map}
use Rattle.kc_model.specs.Effects.{first_failing}

abbrev pub at_first : Bool → Option ℕ → Option ℕ
at_first passes later = cond passes (option_map (λ place. place + 1) later) (Some 0)

-- none fails exactly if the first passes and none of the others fails
none-later : (passes : Bool) (later : Option ℕ) → at_first passes later ≡ None → (passes ≡ true) × (later ≡ None)
none-later true None is = (refl, refl)
none-later true (Some place) is = cc
none-later false later is = cc

-- the next place passes too
pub none-more : {X : Type 0} (test : X → Bool) (xs : List X) (i : ℕ) (d : X) → first_failing test (take i xs) ≡ None → i < length xs → test (get_or xs i d) ≡ true → first_failing test (take (i + 1) xs) ≡ None
none-more test [] i d none low passes = absurd (omega (arith, low))
none-more test (x ∷ xs) zero d none low passes = ap (λ first. at_first first (first_failing test (take 0 xs))) passes
none-more test (x ∷ xs) (suc i) d none low passes =
    let both = none-later (test x) (first_failing test (take i xs)) none in
    let next : suc i + 1 ≡ suc (i + 1) = omega arith in
    ap (λ n. first_failing test (take n (x ∷ xs))) next ∙ ap (λ first. at_first first (first_failing test (take (i + 1) xs))) both.0 ∙ ap (at_first true) (none-more test xs i d both.1 (omega (arith, low)) passes)

-- the next place fails
pub fails-at : {X : Type 0} (test : X → Bool) (xs : List X) (i : ℕ) (d : X) → first_failing test (take i xs) ≡ None → i < length xs → test (get_or xs i d) ≡ false → first_failing test xs ≡ Some i
fails-at test [] i d none low fails = absurd (omega (arith, low))
fails-at test (x ∷ xs) zero d none low fails = ap (λ first. at_first first (first_failing test xs)) fails
fails-at test (x ∷ xs) (suc i) d none low fails =
    let both = none-later (test x) (first_failing test (take i xs)) none in
    let next : i + 1 ≡ suc i = omega arith in
    ap (λ first. at_first first (first_failing test xs)) both.0 ∙ ap (at_first true) (fails-at test xs i d both.1 (omega (arith, low)) fails) ∙ ap Some next

-- a test of the values made of the elements
pub fails-map : {X Y : Type 0} (test : X → Bool) (made : Y → Bool) (make : X → Y) (xs : List X) → All (λ x. made (make x) ≡ test x) xs → first_failing made (map make xs) ≡ first_failing test xs
fails-map test made make [] same = refl
fails-map test made make (x ∷ xs) same =
    ap₂ at_first (same 0 x (omega arith)) (fails-map test made make xs (λ i d low. same (suc i) d (omega (arith, low))))
