-- The number that digits spell, cut off if it is too large.
use Rattle.std.proofs.Common.{◌≡◌, ◌≤◌, ◌<◌, ◌+◌, ◌*◌, ◌%◌, ◌^◌, ℕ, Bool, true, false, cond, List, length, get_or, take, Some, None, refl, sym, ap, ◌∙◌, arith, inl, inr}
use Rattle.std.specs.Prelude.{◌==◌, nat_le}
use Rattle.std.specs.Char.{is_ascii_digit, digit_value}
use Rattle.std.specs.List.{list_all}
use Rattle.std.specs.Str.Parse.{digits_value}
use Rattle.std.proofs.lemmas.List.Folds.{list_all_at}
use Rattle.std.proofs.lemmas.Int.Digits.{digits_value_more}
use Rattle.std.proofs.lemmas.Bool.{and_parts, leb-true, eqb-true, le-ltb, cases_lt, cases_Bool}
use Rattle.kc_lines.specs.Words.{has_no_leading_zero, is_numeral, number_in}
use Rattle.kc_lines.proofs.Digits.{all_below, at_below}
use Rattle.kc_lines.proofs.Numbers.{number_when}

-- n, cut off
pub record IsCut (n value : ℕ) : Type 0 where
  pub below : n < 2 ^ 32 → value ≡ n
  pub above : 2 ^ 32 ≤ n → value ≡ 2 ^ 32

abbrev is_its_value : ℕ → Bool
is_its_value c = cond (is_ascii_digit c) (digit_value c == c % 16) true

its_value_always : all_below is_its_value 128 ≡ true
unfolding all_below
its_value_always = refl

digit_is_small : (c : ℕ) → is_ascii_digit c ≡ true → c < 128
digit_is_small c e = let h : c ≤ 57 = leb-true c 57 (and_parts (nat_le 48 c) (nat_le c 57) e).1 in omega (arith, h)

value_of_digit : (c : ℕ) → is_ascii_digit c ≡ true → digit_value c ≡ c % 16
value_of_digit c e = eqb-true _ _ (rw e at (at_below is_its_value 128 c its_value_always (digit_is_small c e)))

digit_at : (word : List ℕ) (i : ℕ) → list_all is_ascii_digit word ≡ true → i < length word → is_ascii_digit (get_or word i 0) ≡ true
digit_at word i all lt =
    elim (cases_Bool (is_ascii_digit (get_or word i 0))) [
      | inl h ↦ h
      | inr h ↦ absurd (let none = list_all_at is_ascii_digit word i 0 lt h in let e : false ≡ true = sym none ∙ all in cc)
    ]

-- one more digit
more_is : (word : List ℕ) (i : ℕ) → list_all is_ascii_digit word ≡ true → i < length word → digits_value 10 (take (i + 1) word) ≡ digits_value 10 (take i word) * 10 + get_or word i 0 % 16
more_is word i all lt = digits_value_more 10 word i lt ∙ ap (λ d. digits_value 10 (take i word) * 10 + d) (value_of_digit (get_or word i 0) (digit_at word i all lt))

kept : (n m d v w : ℕ) → m ≡ n * 10 + d → w ≡ v * 10 + d → w ≤ 2 ^ 32 → IsCut n v → IsCut m w
kept n m d v w m_is w_is le cut =
    elim (cases_lt n (2 ^ 32)) [
      | inl lt ↦ let same = cut.below lt in record { below = λ h. omega (arith, same, m_is, w_is); above = λ h. omega (arith, same, m_is, w_is, le, h) }
      | inr past ↦ let same = cut.above past in absurd (omega (arith, same, w_is, le))
    ]

cut_off : (n m d v w : ℕ) → m ≡ n * 10 + d → w ≡ v * 10 + d → 2 ^ 32 < w → IsCut n v → IsCut m (2 ^ 32)
cut_off n m d v w m_is w_is gt cut = record {
  below = λ h. let lt : n < 2 ^ 32 = omega (arith, m_is, h) in let same = cut.below lt in absurd (omega (arith, same, m_is, w_is, gt, h));
  above = λ h. refl;
}

pub next_kept : (word : List ℕ) (i v w : ℕ) → list_all is_ascii_digit word ≡ true → i < length word → w ≡ v * 10 + get_or word i 0 % 16 → w ≤ 2 ^ 32 → IsCut (digits_value 10 (take i word)) v → IsCut (digits_value 10 (take (i + 1) word)) w
next_kept word i v w all lt is le cut = kept _ _ (get_or word i 0 % 16) v w (more_is word i all lt) is le cut

pub next_cut : (word : List ℕ) (i v w : ℕ) → list_all is_ascii_digit word ≡ true → i < length word → w ≡ v * 10 + get_or word i 0 % 16 → 2 ^ 32 < w → IsCut (digits_value 10 (take i word)) v → IsCut (digits_value 10 (take (i + 1) word)) (2 ^ 32)
next_cut word i v w all lt is gt cut = cut_off _ _ (get_or word i 0 % 16) v w (more_is word i all lt) is gt cut

-- a number that was not cut off
pub value_is : (word : List ℕ) (v : ℕ) → is_numeral word ≡ true → IsCut (digits_value 10 word) v → v < 2 ^ 32 → Some v ≡ number_in word
value_is word v e cut lt =
    elim (cases_lt (digits_value 10 word) (2 ^ 32)) [
      | inl fits ↦ ap Some (cut.below fits) ∙ sym (number_when word e fits)
      | inr past ↦ absurd (omega (arith, cut.above past, lt))
    ]

none_when : (word : List ℕ) → is_numeral word ≡ true → 2 ^ 32 ≤ digits_value 10 word → None ≡ number_in word
unfolding number_in
none_when word e past = rw (e, le-ltb (digits_value 10 word) (2 ^ 32) past) refl

-- a number that was cut off
pub no_value : (word : List ℕ) (v : ℕ) → is_numeral word ≡ true → IsCut (digits_value 10 word) v → 2 ^ 32 ≤ v → None ≡ number_in word
no_value word v e cut le =
    elim (cases_lt (digits_value 10 word) (2 ^ 32)) [
      | inl fits ↦ absurd (omega (arith, cut.below fits, fits, le))
      | inr past ↦ none_when word e past
    ]

-- digits are a numeral exactly if they have no leading zero
pub digits_numeral : (digits : List ℕ) (b : Bool) → list_all is_ascii_digit digits ≡ true → b ≡ has_no_leading_zero digits → is_numeral digits ≡ b
digits_numeral digits b e h = rw e (sym h)

pub not_numeral : (word : List ℕ) → is_numeral word ≡ false → None ≡ number_in word
unfolding number_in
not_numeral word e = rw e refl

pub not_digits : (word : List ℕ) → list_all is_ascii_digit word ≡ false → None ≡ number_in word
not_digits word e = not_numeral word (rw e refl)
