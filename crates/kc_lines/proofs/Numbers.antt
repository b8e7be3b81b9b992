-- A number has one spelling.
use Rattle.std.proofs.Common.{◌≡◌, ◌≢◌, ◌⊎◌, ◌≤◌, ◌<◌, ◌^◌, ℕ, Bool, true, false, cond, List, length, get_or, Some, None, refl, sym, ap, ◌∙◌, arith, inl, inr, rules}
use Rattle.std.specs.Prelude.{◌&&◌, ◌||◌, ◌==◌, not, nat_lt}
use Rattle.std.specs.Char.{is_ascii_digit}
use Rattle.std.specs.List.{list_all}
use Rattle.std.specs.Str.Parse.{digits_value}
use Rattle.std.specs.Fmt.{decimal}
use Rattle.std.proofs.lemmas.Str.Parse.{IsNumeralModel, numerals_by_value}
use Rattle.std.proofs.lemmas.Fmt.{decimal-digits_value, digits_decimal, digits_value-decimal, decimal_nonempty, first_decimal, decimal_digit}
use Rattle.std.proofs.lemmas.Bool.{ltb-true, lt-ltb, eqb-true, eqb-false, ne_eqb, cases_lt}
use Rattle.kc_lines.specs.Words.{is_numeral, number_in}

abbrev pub AreDigits : List ℕ → Type 0
AreDigits word = list_all is_ascii_digit word ≡ true

pub own : IsNumeralModel AreDigits (digits_value 10)
own = numerals_by_value AreDigits (search rules)

-- a numeral, as the facts describe it
pub record IsNumeralWord (word : List ℕ) : Type 0 where
  pub digits : AreDigits word
  pub some : 0 < length word
  pub first : get_or word 0 0 ≡ 48 → length word ≡ 1

tests_are : (a b c d : Bool) → (a && (not b && (c || not d))) ≡ true → (a ≡ true) × (b ≡ false) × (d ≡ true → c ≡ true)
tests_are true false true d e = (refl, refl, λ h. refl)
tests_are true false false true e = absurd cc
tests_are true false false false e = (refl, refl, λ h. absurd cc)
tests_are true true c d e = absurd cc
tests_are false b c d e = absurd cc

tests_from : (a b c d : Bool) → a ≡ true → b ≡ false → (d ≡ true → c ≡ true) → (a && (not b && (c || not d))) ≡ true
tests_from a b c true ea eb h = rw (ea, eb, h refl) refl
tests_from a b true false ea eb h = rw (ea, eb) refl
tests_from a b false false ea eb h = rw (ea, eb) refl

pub numeral_is : (word : List ℕ) → is_numeral word ≡ true → IsNumeralWord word
numeral_is word e =
    let parts = tests_are (list_all is_ascii_digit word) (length word == 0) (length word == 1) (get_or word 0 0 == 48) e in
    let some : length word ≢ 0 = eqb-false _ _ parts.1 in
    record { digits = parts.0; some = omega arith; first = λ h. eqb-true _ _ (parts.2 (rw h refl)) }

pub is_numeral_from : (word : List ℕ) → IsNumeralWord word → is_numeral word ≡ true
is_numeral_from word h =
    let some : length word ≢ 0 = omega (arith, h.some) in
    tests_from (list_all is_ascii_digit word) (length word == 0) (length word == 1) (get_or word 0 0 == 48) h.digits (ne_eqb _ _ some)
    (λ e. let one : length word ≡ 1 = h.first (eqb-true _ _ e) in rw one refl)

pub number_when : (word : List ℕ) → is_numeral word ≡ true → digits_value 10 word < 2 ^ 32 → number_in word ≡ Some (digits_value 10 word)
unfolding number_in
number_when word e lt = rw (e, lt-ltb (digits_value 10 word) (2 ^ 32) lt) refl

decimal_first : (n : ℕ) → n < 2 ^ 32 → get_or (decimal n) 0 0 ≡ 48 → (0 < n) ⊎ (n ≤ 0) → length (decimal n) ≡ 1
decimal_first n lt h (inl some) = absurd (omega (arith, first_decimal n some (omega arith)))
decimal_first n lt h (inr none) = let zero_is : n ≡ 0 = omega arith in rw zero_is (ap length (decimal_digit 0 (omega arith)))

decimal_is_numeral : (n : ℕ) → n < 2 ^ 32 → IsNumeralWord (decimal n)
decimal_is_numeral n lt = record {
  digits = digits_decimal own n (omega arith);
  some = decimal_nonempty n (omega arith);
  first = λ h. decimal_first n lt h (cases_lt 0 n);
}

pub number_of-decimal : (n : ℕ) → n < 2 ^ 32 → number_in (decimal n) ≡ Some n
number_of-decimal n lt =
    let value : digits_value 10 (decimal n) ≡ n = digits_value-decimal own n (omega arith) in
    number_when (decimal n) (is_numeral_from (decimal n) (decimal_is_numeral n lt)) (omega arith) ∙ ap Some value

number_cases : (word : List ℕ) (a b : Bool) (n : ℕ) → cond (a && b) (Some (digits_value 10 word)) None ≡ Some n → (a ≡ true) × (b ≡ true) × (digits_value 10 word ≡ n)
number_cases word true true n e = (refl, refl, cc)
number_cases word true false n e = absurd cc
number_cases word false b n e = absurd cc

pub number_is_decimal : (word : List ℕ) (n : ℕ) → number_in word ≡ Some n → (word ≡ decimal n) × (n < 2 ^ 32)
unfolding number_in
number_is_decimal word n e =
    let parts = number_cases word (is_numeral word) (nat_lt (digits_value 10 word) (2 ^ 32)) n e in
    let numeral = numeral_is word parts.0 in
    let lt : digits_value 10 word < 2 ^ 32 = ltb-true _ _ parts.1 in
    (sym (decimal-digits_value own word numeral.digits numeral.some numeral.first (omega arith)) ∙ ap decimal parts.2, omega (arith, parts.2))
