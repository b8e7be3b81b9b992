-- Digits written in pairs.
use Rattle.std.proofs.Common.{◌≡◌, ◌<◌, ◌+◌, ◌*◌, ◌%◌, ◌/◌, ℕ, List, [], ◌∷◌, ◌++◌, length, get_or, set, take, refl, sym, ap, ◌∙◌, arith, append_assoc}
use Rattle.std.specs.Prelude.{◌==◌}
use Rattle.std.proofs.lemmas.List.{take_more, take_more_set, length-set}
use Rattle.hex.specs.Hex.{encode_lower, encode_with, lower_digits}
use Rattle.kc_lines.proofs.Digits.{encode_lower-append}

-- this many bytes are written
pub record IsEncoded (bytes digits : List ℕ) (i : ℕ) : Type 0 where
  pub written : take (2 * i) digits ≡ encode_lower (take i bytes)
  pub size : length digits ≡ 2 * length bytes

pub none_encoded : (bytes digits : List ℕ) → length digits ≡ 2 * length bytes → IsEncoded bytes digits 0
unfolding encode_with
none_encoded bytes digits size = record { written = refl; size = size }

two_of_one : (b : ℕ) → encode_lower (b ∷ []) ≡ get_or lower_digits (b / 16) 0 ∷ get_or lower_digits (b % 16) 0 ∷ []
unfolding encode_with
two_of_one b = refl

pub next_encoded : (bytes digits : List ℕ) (i high low : ℕ) → i < length bytes
    → high ≡ get_or lower_digits (get_or bytes i 0 / 16) 0 → low ≡ get_or lower_digits (get_or bytes i 0 % 16) 0
    → IsEncoded bytes digits i → IsEncoded bytes (set (set digits (2 * i) high) (2 * i + 1) low) (i + 1)
next_encoded bytes digits i high low within high_is low_is before =
    let one : length (set digits (2 * i) high) ≡ length digits = length-set digits (2 * i) high in
    let two : length (set (set digits (2 * i) high) (2 * i + 1) low) ≡ length (set digits (2 * i) high) = length-set (set digits (2 * i) high) (2 * i + 1) low in
    let size = before.size in
    let place : 2 * (i + 1) ≡ 2 * i + 1 + 1 = omega arith in
    record {
      written =
          ap (λ (n : ℕ). take n (set (set digits (2 * i) high) (2 * i + 1) low)) place
          ∙ take_more_set (set digits (2 * i) high) (2 * i + 1) low (omega (arith, one, size, within))
          ∙ ap (λ (l : List ℕ). l ++ low ∷ []) (take_more_set digits (2 * i) high (omega (arith, size, within)))
          ∙ append_assoc (take (2 * i) digits) (high ∷ []) (low ∷ [])
          ∙ ap (λ (l : List ℕ). l ++ high ∷ low ∷ []) before.written
          ∙ rw (high_is, low_is) (ap (λ (l : List ℕ). encode_lower (take i bytes) ++ l) (sym (two_of_one (get_or bytes i 0))))
          ∙ sym (encode_lower-append (take i bytes) (get_or bytes i 0 ∷ []))
          ∙ ap encode_lower (sym (take_more bytes i 0 within));
      size = omega (arith, one, two, size);
    }
