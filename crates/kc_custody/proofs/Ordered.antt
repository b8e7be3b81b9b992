-- Numbers in rising order.
use Rattle.std.proofs.Common.{ℕ, suc, ◌≡◌, ◌<◌, ◌≤◌, ◌+◌, ◌||◌, true, List, [], ◌∷◌, length, get_or, refl, ap₂, sym, ◌∙◌, arith}
use Rattle.kc_model.specs.Resources.{is_in}
use Rattle.kc_parts.specs.Parts.{IsRising, is_among}
use Rattle.kc_parts.proofs.Filled.{swapped}

-- the numbers rise, and none is below this one
abbrev pub IsRisingFrom : ℕ → List ℕ → Type 0
IsRisingFrom low [] = Unit {0}
IsRisingFrom low (x ∷ xs) = (low ≤ x) × IsRisingFrom (x + 1) xs

rising-from : (low : ℕ) (xs : List ℕ) → IsRising xs → (0 < length xs → low ≤ get_or xs 0 0) → IsRisingFrom low xs
rising-from low [] up from = tt
rising-from low (x ∷ xs) up from = (from (omega arith), rising-from (x + 1) xs rest next)
  where
    rest : IsRising xs
    rest i j lt within = up (suc i) (suc j) (omega (arith, lt)) (omega (arith, within))

    next : 0 < length xs → x + 1 ≤ get_or xs 0 0
    next some = let h : x < get_or xs 0 0 = up 0 1 (omega arith) (omega (arith, some)) in omega (arith, h)

pub rising : (xs : List ℕ) → IsRising xs → IsRisingFrom 0 xs
rising xs up = rising-from 0 xs up (λ some. omega arith)

-- what a list has by either definition
among-in : (xs : List ℕ) (n : ℕ) → is_among xs n ≡ is_in xs n
among-in [] n = refl
among-in (x ∷ xs) n = ap₂ ◌||◌ (swapped n x) (among-in xs n)

-- what a list has, another has that has the same
pub held : (xs ys : List ℕ) → ((n : ℕ) → is_among ys n ≡ is_among xs n) → (n : ℕ) → is_in xs n ≡ true → is_in ys n ≡ true
held xs ys same n has = sym (among-in ys n) ∙ same n ∙ among-in xs n ∙ has
