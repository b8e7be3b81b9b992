-- Words joined by spaces, and split at spaces again.
use Rattle.std.proofs.Common.{◌≡◌, ◌⊎◌, ◌<◌, ◌+◌, ◌-◌, ℕ, suc, Bool, true, false, cond, List, [], ◌∷◌, ◌++◌, length, get_or, take, drop, Option, Some, None, refl, sym, ap, ◌∙◌, arith, inl, inr, length-append}
use Rattle.std.specs.Prelude.{◌^◌, ◌&&◌, ◌==◌, not, nat_le, position, nat_lt, option_map, option_and_then}
use Rattle.std.specs.List.{list_all, slice_split, join_with_byte, position_or_len}
use Rattle.std.specs.Char.{is_ascii_digit}
use Rattle.std.specs.Fmt.{decimal}
use Rattle.std.specs.Str.{bytes_eq}
use Rattle.std.proofs.lemmas.Bool.{and_parts, and_from, not-true, ne_eqb, leb-true, or_cases, ltb-true, ltb-false}
use Rattle.std.proofs.lemmas.List.{take-append-drop, take_all, length-drop}
use Rattle.std.proofs.Math.Seq.{drop-cons}
use Rattle.std.proofs.lemmas.List.Splits.{slice_split_first, slice_split_none, length-slice_split}
use Rattle.std.proofs.lemmas.List.Sums.{fails_before_first}
use Rattle.std.proofs.lemmas.Fmt.{digits_decimal}
use Rattle.std.proofs.lemmas.Slice.Eq.{bytes_eq-Decides}
use Rattle.hex.specs.Hex.{encode_lower}
use Rattle.kc_types.specs.Bytes.{IsData}
use Rattle.kc_lines.specs.Words.{is_lower_digit, number_in, IsLastNumber, IsFirstNumber}
use Rattle.kc_lines.specs.Lines.{IsOneLine}
use Rattle.kc_lines.proofs.Numbers.{own}
use Rattle.kc_lines.proofs.Digits.{encoded_is_lower}

-- ---- what a reader of words found

pub map_some : {A B : Type 0} (f : A → B) (o : Option A) (y : B) → option_map f o ≡ Some y → (x : A) × (o ≡ Some x) × (f x ≡ y)
map_some f (Some x) y e = (x, refl, cc)
map_some f None y e = absurd cc

pub then_some : {A B : Type 0} (f : A → Option B) (o : Option A) (y : B) → option_and_then f o ≡ Some y → (x : A) × (o ≡ Some x) × (f x ≡ Some y)
then_some f (Some x) y e = (x, refl, e)
then_some f None y e = absurd cc

pub name_is : (name text : List ℕ) → bytes_eq name text ≡ true → name ≡ text
name_is name text e = (bytes_eq-Decides name text).0 e

-- ---- words of a line

abbrev pub is_space : ℕ → Bool
is_space b = b == 32

-- neither a space nor a newline
abbrev pub is_plain : ℕ → Bool
is_plain b = not (b == 32) && not (b == 10)

abbrev pub is_word : List ℕ → Bool
is_word word = list_all is_plain word

-- if one test implies another, all elements that pass the one pass the other
all_weaker : (p q : ℕ → Bool) → ((c : ℕ) → p c ≡ true → q c ≡ true) → (xs : List ℕ) → list_all p xs ≡ true → list_all q xs ≡ true
all_weaker p q h [] e = refl
all_weaker p q h (x ∷ xs) e =
    let parts = and_parts (p x) (list_all p xs) e in
    and_from (q x) (list_all q xs) (h x parts.0) (all_weaker p q h xs parts.1)

-- which way a test went
pub chosen : {A : Type 0} (b : Bool) (x y z : A) → cond b x y ≡ z → ((b ≡ true) × (x ≡ z)) ⊎ ((b ≡ false) × (y ≡ z))
chosen true x y z e = inl (refl, e)
chosen false x y z e = inr (refl, e)

-- ---- words that are joined

plain_is_no_space : (c : ℕ) → is_plain c ≡ true → (c == 32) ≡ false
plain_is_no_space c e = not-true (c == 32) (and_parts (not (c == 32)) (not (c == 10)) e).0

plain_is_no_end : (c : ℕ) → is_plain c ≡ true → not (c == 10) ≡ true
plain_is_no_end c e = (and_parts (not (c == 32)) (not (c == 10)) e).1

split_last : (word : List ℕ) → is_word word ≡ true → slice_split is_space word ≡ word ∷ []
split_last [] e = refl
split_last (x ∷ word) e =
    let parts = and_parts (is_plain x) (is_word word) e in
    rw (plain_is_no_space x parts.0, split_last word parts.1) refl

split_word : (word rest : List ℕ) → is_word word ≡ true → slice_split is_space (word ++ 32 ∷ rest) ≡ word ∷ slice_split is_space rest
split_word [] rest e = refl
split_word (x ∷ word) rest e =
    let parts = and_parts (is_plain x) (is_word word) e in
    rw (plain_is_no_space x parts.0, split_word word rest parts.1) refl

-- joined words are split into the same words
pub split_join : (word : List ℕ) (words : List (List ℕ)) → list_all is_word (word ∷ words) ≡ true → slice_split is_space (join_with_byte 32 (word ∷ words)) ≡ word ∷ words
split_join word [] e = split_last word (and_parts (is_word word) true e).0
split_join word (next ∷ words) e =
    let parts = and_parts (is_word word) (list_all is_word (next ∷ words)) e in
    split_word word (join_with_byte 32 (next ∷ words)) parts.0 ∙ ap (λ ws. word ∷ ws) (split_join next words parts.1)

-- a line has at least one word
pub some_word : (line : List ℕ) → slice_split is_space line ≡ [] → ⊥
some_word line e = omega (arith, length-slice_split is_space line, ap length e)

one_line_append : (one two : List ℕ) → IsOneLine one → IsOneLine two → IsOneLine (one ++ two)
one_line_append [] two h g = g
one_line_append (x ∷ one) two h g =
    let parts = and_parts (not (x == 10)) (list_all (λ b. not (b == 10)) one) h in
    and_from (not (x == 10)) (list_all (λ b. not (b == 10)) (one ++ two)) parts.0 (one_line_append one two parts.1 g)

word_is_one_line : (word : List ℕ) → is_word word ≡ true → IsOneLine word
word_is_one_line word e = all_weaker is_plain (λ b. not (b == 10)) plain_is_no_end word e

-- joined words hold no newline
pub join_is_one_line : (word : List ℕ) (words : List (List ℕ)) → list_all is_word (word ∷ words) ≡ true → IsOneLine (join_with_byte 32 (word ∷ words))
join_is_one_line word [] e = word_is_one_line word (and_parts (is_word word) true e).0
join_is_one_line word (next ∷ words) e =
    let parts = and_parts (is_word word) (list_all is_word (next ∷ words)) e in
    one_line_append word (32 ∷ join_with_byte 32 (next ∷ words)) (word_is_one_line word parts.0) (join_is_one_line next words parts.1)

-- the number of bytes of some words, each with its space
abbrev pub width : List (List ℕ) → ℕ
width [] = 0
width (word ∷ words) = 1 + length word + width words

pub length-join : (word : List ℕ) (words : List (List ℕ)) → length (join_with_byte 32 (word ∷ words)) ≡ length word + width words
length-join word [] = omega arith
length-join word (next ∷ words) = omega (arith, length-append word (32 ∷ join_with_byte 32 (next ∷ words)), length-join next words)

-- ---- numbers and bytes are words

range_is_plain : (low high c : ℕ) → 32 < low → (nat_le low c && nat_le c high) ≡ true → is_plain c ≡ true
range_is_plain low high c above e =
    let h = leb-true low c (and_parts (nat_le low c) (nat_le c high) e).0 in
    and_from (not (c == 32)) (not (c == 10)) (ap not (ne_eqb c 32 (λ same. omega arith))) (ap not (ne_eqb c 10 (λ same. omega arith)))

lower_is_plain : (c : ℕ) → is_lower_digit c ≡ true → is_plain c ≡ true
lower_is_plain c e =
    elim (or_cases (nat_le 48 c && nat_le c 57) (nat_le 97 c && nat_le c 102) e) [
      | inl h ↦ range_is_plain 48 57 c (omega arith) h
      | inr h ↦ range_is_plain 97 102 c (omega arith) h
    ]

digits_are_word : (digits : List ℕ) → list_all is_ascii_digit digits ≡ true → is_word digits ≡ true
digits_are_word digits e = all_weaker is_ascii_digit is_plain (λ c h. range_is_plain 48 57 c (omega arith) h) digits e

pub decimal_is_word : (n : ℕ) → n < 2 ^ 32 → is_word (decimal n) ≡ true
decimal_is_word n lt = digits_are_word (decimal n) (digits_decimal own n (omega arith))

pub encoded_is_word : (bytes : List ℕ) → IsData bytes → is_word (encode_lower bytes) ≡ true
encoded_is_word bytes fits = all_weaker is_lower_digit is_plain lower_is_plain (encode_lower bytes) (encoded_is_lower bytes fits)

-- ---- cutting off the first word

pub split_at_space : (line : List ℕ) (at : ℕ) → position is_space line ≡ Some at → slice_split is_space line ≡ take at line ∷ slice_split is_space (drop (at + 1) line)
split_at_space line at e =
    elim (chosen (nat_lt (position_or_len is_space line) (length line)) (Some (position_or_len is_space line)) None (Some at) e) [
      | inl h ↦ let same : position_or_len is_space line ≡ at = cc in rw (← same) (slice_split_first is_space line 0 (ltb-true _ _ h.0))
      | inr h ↦ absurd cc
    ]

pub no_space : (line : List ℕ) → position is_space line ≡ None → slice_split is_space line ≡ line ∷ []
no_space line e =
    elim (chosen (nat_lt (position_or_len is_space line) (length line)) (Some (position_or_len is_space line)) None None e) [
      | inl h ↦ absurd cc
      | inr h ↦ let past = ltb-false _ _ h.0 in slice_split_none is_space line (λ k d lt. fails_before_first is_space line k d (omega arith))
    ]

-- a line of digits is one word
pub digits_alone : (line : List ℕ) → list_all is_ascii_digit line ≡ true → slice_split is_space line ≡ line ∷ []
digits_alone line e = split_last line (digits_are_word line e)

-- digits before a space are the first word
pub digits_first : (line : List ℕ) (n : ℕ) → n < length line → get_or line n 0 ≡ 32 → list_all is_ascii_digit (take n line) ≡ true → slice_split is_space line ≡ take n line ∷ slice_split is_space (drop (n + 1) line)
digits_first line n lt space e =
    let next : suc n ≡ n + 1 = omega arith in
    let rest : drop n line ≡ 32 ∷ drop (n + 1) line = drop-cons line n 0 lt ∙ ap (λ b. b ∷ drop (suc n) line) space ∙ ap (λ k. 32 ∷ drop k line) next in
    let whole : line ≡ take n line ++ 32 ∷ drop (n + 1) line = sym (take-append-drop n line) ∙ ap (λ l. take n line ++ l) rest in
    ap (slice_split is_space) whole ∙ split_word (take n line) (drop (n + 1) line) (digits_are_word (take n line) e)

-- a line of digits as a number, and digits before a space
pub last_number : (line : List ℕ) (n : ℕ) (number : Option ℕ) → n ≡ length line → list_all is_ascii_digit (take n line) ≡ true → number ≡ number_in (take n line) → IsLastNumber line number
last_number line n number size e same =
    let whole : take n line ≡ line = take_all n line (omega arith) in
    (digits_alone line (rw whole at e), same ∙ ap number_in whole)

pub first_number : (line : List ℕ) (n : ℕ) (number : Option ℕ) → n < length line → get_or line n 0 ≡ 32 → list_all is_ascii_digit (take n line) ≡ true → number ≡ number_in (take n line) → IsFirstNumber line number (take (length line - (n + 1)) (drop (n + 1) line))
first_number line n number lt space e same =
    let rest : take (length line - (n + 1)) (drop (n + 1) line) ≡ drop (n + 1) line = take_all _ (drop (n + 1) line) (omega (arith, length-drop (n + 1) line)) in
    (take n line, digits_first line n lt space e ∙ ap (λ l. take n line ∷ slice_split is_space l) (sym rest), same)
