-- Numbers that pass a test, one after another.
use Rattle.std.proofs.Common.{ℕ, ◌≡◌, ◌+◌, Bool, true, false, cond, List, [], ◌∷◌, ◌++◌, map, filter, refl, ap, ◌∙◌, arith}
use Rattle.std.specs.List.{range_with_len}
use Rattle.std.proofs.lemmas.List.{map-append}
use Rattle.std.proofs.lemmas.List.Elements.{filter-append}
use Rattle.kc_core.proofs.Measuring.{range-more}

-- one number more
pub passed-more : {X : Type 0} (made : ℕ → X) (test : ℕ → Bool) (n : ℕ) → map made (filter test (range_with_len 0 (n + 1))) ≡ map made (filter test (range_with_len 0 n)) ++ cond (test n) (made n ∷ []) []
passed-more made test n =
    let here : 0 + n ≡ n = omega arith in
    ap (λ ns. map made (filter test ns)) (rw here at (range-more 0 n))
    ∙ ap (map made) (filter-append test (range_with_len 0 n) (n ∷ []))
    ∙ map-append made (filter test (range_with_len 0 n)) (cond (test n) (n ∷ []) [])
    ∙ ap (λ xs. map made (filter test (range_with_len 0 n)) ++ xs) (one-or-none (test n))
  where
    one-or-none : (b : Bool) → map made (cond b (n ∷ []) []) ≡ cond b (made n ∷ []) []
    one-or-none true = refl
    one-or-none false = refl
