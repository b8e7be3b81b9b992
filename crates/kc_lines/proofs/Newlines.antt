-- The first newline of some bytes.
use Rattle.std.proofs.Common.{◌≡◌, ℕ, zero, suc, ◌+◌, ◌≤◌, Bool, true, List, [], ◌∷◌, ◌++◌, length, get_or, take, drop, Some, None, refl, arith, length-drop, inl, inr, ◌-◌}
use Rattle.std.specs.Prelude.{◌==◌, not, nat_lt, position}
use Rattle.std.specs.List.{list_all, prefix_len, position_or_len}
use Rattle.std.proofs.lemmas.Bool.{and_from, eqb-true, cases_Bool, ltb-true, ltb-false}
use Rattle.std.proofs.lemmas.List.{take_all}
use Rattle.std.proofs.lemmas.List.Sums.{passes_at_first, split_at_first}
use Rattle.kc_lines.specs.Lines.{IsOneLine}
use Rattle.kc_lines.proofs.Words.{chosen}

prefix_holds : (q : ℕ → Bool) (n : ℕ) (xs : List ℕ) → n ≤ prefix_len q xs → list_all q (take n xs) ≡ true
prefix_holds q zero xs le = refl
prefix_holds q (suc n) [] le = refl
prefix_holds q (suc n) (x ∷ xs) le =
    elim (cases_Bool (q x)) [
      | inl h ↦ let more : suc n ≤ 1 + prefix_len q xs = rw h at le in and_from (q x) (list_all q (take n xs)) h (prefix_holds q n xs (omega arith))
      | inr h ↦ let none : suc n ≤ 0 = rw h at le in absurd (omega arith)
    ]

abbrev is_newline : ℕ → Bool
is_newline b = b == 10

-- a line, and what is after its newline
pub line_ends_at : (xs : List ℕ) (at : ℕ) → position is_newline xs ≡ Some at → IsOneLine (take at xs) × (xs ≡ take at xs ++ 10 ∷ drop (at + 1) xs)
line_ends_at xs at e =
    elim (chosen (nat_lt (position_or_len is_newline xs) (length xs)) (Some (position_or_len is_newline xs)) None (Some at) e) [
      | inl h ↦
          let same : position_or_len is_newline xs ≡ at = cc in
          let within = ltb-true _ _ h.0 in
          let newline : get_or xs at 0 ≡ 10 = rw same at (eqb-true _ _ (passes_at_first is_newline xs 0 within)) in
          (prefix_holds (λ b. not (b == 10)) at xs (omega arith), rw newline at (rw same at (split_at_first is_newline xs 0 within)))
      | inr h ↦ absurd cc
    ]

pub no_newline : (xs : List ℕ) → position is_newline xs ≡ None → IsOneLine xs
no_newline xs e =
    elim (chosen (nat_lt (position_or_len is_newline xs) (length xs)) (Some (position_or_len is_newline xs)) None None e) [
      | inl h ↦ absurd cc
      | inr h ↦ rw (take_all (length xs) xs (omega arith)) at (prefix_holds (λ b. not (b == 10)) (length xs) xs (ltb-false _ _ h.0))
    ]

-- what is after this many bytes
pub tail_is : (n : ℕ) (xs : List ℕ) → take (length xs - n) (drop n xs) ≡ drop n xs
tail_is n xs = take_all (length xs - n) (drop n xs) (omega (arith, length-drop n xs))
