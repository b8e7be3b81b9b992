-- What a search for a byte returns.
use Rattle.std.proofs.Common.{◌≡◌, ℕ, Bool, List, length, Option, Some, None, refl, arith}
use Rattle.std.specs.Prelude.{position}
use Rattle.std.proofs.lemmas.Bool.{false_from_ne_true, lt-ltb, le-ltb}
use Rattle.std.proofs.lemmas.List.Sums.{position_or_len_is}
use Rattle.memchr.specs.Find.{IsFirstByte}

-- the first place that passes is the position
pub first_is_position : (q : ℕ → Bool) (xs : List ℕ) (found : Option ℕ) → IsFirstByte q xs found → found ≡ position q xs
first_is_position q xs None h =
    let past = position_or_len_is q xs (length xs) 0 (omega arith) (λ k lt. false_from_ne_true _ (h k (omega arith) lt)) (λ lt. absurd (omega arith)) in
    rw (past, le-ltb (length xs) (length xs) (omega arith)) refl
first_is_position q xs (Some k) h =
    let lt = h.0.high in
    let at = position_or_len_is q xs k 0 (omega arith) (λ j before. false_from_ne_true _ (h.0.before j (omega arith) before)) (λ same. h.1) in
    rw (at, lt-ltb k (length xs) lt) refl
