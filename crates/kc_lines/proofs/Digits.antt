-- Bytes have one spelling in lower case digits.
use Rattle.std.proofs.Common.{◌≡◌, ◌≤◌, ◌<◌, ◌+◌, ◌*◌, ◌%◌, ◌/◌, ℕ, zero, suc, Bool, true, false, cond, List, [], ◌∷◌, ◌++◌, ◌≢◌, length, replicate, get_or, set, take, drop, All, Option, Some, None, Result, Ok, Err, refl, sym, ap, ◌∙◌, arith, inl, inr, append_assoc}
use Rattle.std.specs.Prelude.{◌&&◌, ◌==◌, not, nat_le, nat_lt, IsSome, IfSome, ◌↔◌, unwrap_or}
use Rattle.std.specs.List.{list_all}
use Rattle.std.specs.Result.{result_ok}
use Rattle.std.proofs.lemmas.List.{length-replicate, get_or_past, get_or_default, get_or-set_same, get_or-set_other, take_more, take_more_set, take_all, drop_all, append-nil}
use Rattle.std.proofs.lemmas.List.Folds.{list_all_more}
use Rattle.std.proofs.lemmas.Bool.{and_parts, and_from, leb-true, le-leb, eqb-true, eqb-false, not-true, cases_eq, cases_lt, cases_Bool, or_cases, ltb-true, ne_eqb, eq-eqb}
use Rattle.hex.specs.declared.error.FromHexError.{FromHexError}
use Rattle.hex.specs.Hex.{encode_lower, encode_with, decode_of, decode_pairs, lower_digits, hex_digit_value, digit_or_error, value_at, pair_value, IsBytes, ◌>>=◌}
use Rattle.hex.proofs.HexLemmas.{decode_of-ok, decode_of-encode_lower, decode_of-even, length-encode_with}
use Rattle.kc_types.specs.Bytes.{IsData}
use Rattle.kc_lines.specs.Words.{is_lower_digit, digit_value, is_data_word, data_of, blanked_data}

pub record IsDataWord (word : List ℕ) : Type 0 where
  pub digits : list_all is_lower_digit word ≡ true
  pub some : length word ≡ 0 → ⊥
  pub few : length word ≤ 8192

pub data_word_is : (word : List ℕ) → is_data_word word ≡ true → IsDataWord word
data_word_is word e =
    let a = and_parts (list_all is_lower_digit word && not (length word == 0)) (nat_le (length word) 8192) e in
    let b = and_parts (list_all is_lower_digit word) (not (length word == 0)) a.0 in
    record { digits = b.0; some = eqb-false _ _ (not-true _ b.1); few = leb-true _ _ a.1 }

-- ---- a lower case digit is the one that is written for its value

unfoldable pub all_below : (ℕ → Bool) → ℕ → Bool
all_below t zero = true
all_below t (suc n) = t n && all_below t n

pub at_below : (t : ℕ → Bool) (n k : ℕ) → all_below t n ≡ true → k < n → t k ≡ true
unfolding all_below
at_below t zero k e lt = absurd (omega arith)
at_below t (suc n) k e lt =
    let parts = and_parts (t n) (all_below t n) e in
    elim (cases_eq k n) [
      | inl same ↦ rw same parts.0
      | inr other ↦ at_below t n k parts.1 (omega arith)
    ]

abbrev is_again : ℕ → Bool
is_again c = cond (is_lower_digit c) (nat_lt (unwrap_or (hex_digit_value c) 99) 16 && (get_or lower_digits (unwrap_or (hex_digit_value c) 99) 0 == c)) true

is_again_always : all_below is_again 128 ≡ true
unfolding all_below
is_again_always = refl

digits_are_lower : all_below (λ v. is_lower_digit (get_or lower_digits v 0)) 16 ≡ true
unfolding all_below
digits_are_lower = refl

range_is_small : (low high c : ℕ) → high < 128 → (nat_le low c && nat_le c high) ≡ true → c < 128
range_is_small low high c small e = let h = leb-true c high (and_parts (nat_le low c) (nat_le c high) e).1 in omega arith

lower_is_small : (c : ℕ) → is_lower_digit c ≡ true → c < 128
lower_is_small c e =
    elim (or_cases (nat_le 48 c && nat_le c 57) (nat_le 97 c && nat_le c 102) e) [
      | inl h ↦ range_is_small 48 57 c (omega arith) h
      | inr h ↦ range_is_small 97 102 c (omega arith) h
    ]

digit_again : (c v : ℕ) → is_lower_digit c ≡ true → hex_digit_value c ≡ Some v → (v < 16) × (get_or lower_digits v 0 ≡ c)
digit_again c v e h =
    let t : is_again c ≡ true = at_below is_again 128 c is_again_always (lower_is_small c e) in
    let parts = and_parts (nat_lt v 16) (get_or lower_digits v 0 == c) (rw (e, h) at t) in
    (ltb-true _ _ parts.0, eqb-true _ _ parts.1)

bind_ok : {A B : Type 0} (r : Result A FromHexError) (f : A → Result B FromHexError) (y : B) → (r >>= f) ≡ Ok y → (x : A) × (r ≡ Ok x) × (f x ≡ Ok y)
bind_ok (Ok x) f y h = (x, refl, h)
bind_ok (Err e) f y h = absurd cc

digit_read : (c i : ℕ) (o : Option ℕ) (v : ℕ) → digit_or_error c i o ≡ Ok v → o ≡ Some v
digit_read c i (Some w) v h = cc
digit_read c i None v h = absurd cc

lower_pairs : (i : ℕ) (word bytes : List ℕ) → list_all is_lower_digit word ≡ true → decode_pairs i word ≡ Ok bytes → word ≡ encode_lower bytes
unfolding decode_pairs encode_with
lower_pairs i [] bytes e h = let same : [] ≡ bytes = cc in rw (← same) refl
lower_pairs i (a ∷ []) bytes e h = absurd cc
lower_pairs i (a ∷ b ∷ rest) bytes e h =
    let digits = and_parts (is_lower_digit a) (list_all is_lower_digit (b ∷ rest)) e in
    let more = and_parts (is_lower_digit b) (list_all is_lower_digit rest) digits.1 in
    let p0 = bind_ok (pair_value a b i) (λ byte. decode_pairs (i + 2) rest >>= λ bs. Ok (byte ∷ bs)) bytes h in
    let p1 = bind_ok (value_at a i) (λ high. value_at b (i + 1) >>= λ low. Ok (high * 16 + low)) p0.0 p0.1 in
    let p2 = bind_ok (value_at b (i + 1)) (λ low. Ok (p1.0 * 16 + low)) p0.0 p1.2 in
    let p3 = bind_ok (decode_pairs (i + 2) rest) (λ bs. Ok (p0.0 ∷ bs)) bytes p0.2 in
    let ih = lower_pairs (i + 2) rest p3.0 more.1 p3.1 in
    let da = digit_again a p1.0 digits.0 (digit_read a i (hex_digit_value a) p1.0 p1.1) in
    let db = digit_again b p2.0 more.0 (digit_read b (i + 1) (hex_digit_value b) p2.0 p2.1) in
    let byte : p1.0 * 16 + p2.0 ≡ p0.0 = cc in
    let whole : p0.0 ∷ p3.0 ≡ bytes = cc in
    let high : p0.0 / 16 ≡ p1.0 = omega (arith, da.0, db.0, byte) in
    let low : p0.0 % 16 ≡ p2.0 = omega (arith, da.0, db.0, byte) in
    rw (← whole, high, low, da.1, db.1, ← ih) refl

-- data are bytes, also past their end
data_is_bytes : (bytes : List ℕ) → IsData bytes → IsBytes bytes
data_is_bytes bytes fits i =
    elim (cases_lt i (length bytes)) [
      | inl lt ↦ fits.each_byte i 0 lt
      | inr past ↦ rw (get_or_past bytes i 0 past) (omega arith)
    ]

bytes_are_lower : (bytes : List ℕ) → IsBytes bytes → list_all is_lower_digit (encode_lower bytes) ≡ true
unfolding encode_with
bytes_are_lower [] h = refl
bytes_are_lower (b ∷ rest) h =
    let fits : b < 256 = h 0 in
    let high = at_below (λ v. is_lower_digit (get_or lower_digits v 0)) 16 (b / 16) digits_are_lower (omega arith) in
    let low = at_below (λ v. is_lower_digit (get_or lower_digits v 0)) 16 (b % 16) digits_are_lower (omega arith) in
    rw (high, low) (bytes_are_lower rest (λ k. h (suc k)))

pub encoded_is_lower : (bytes : List ℕ) → IsData bytes → list_all is_lower_digit (encode_lower bytes) ≡ true
encoded_is_lower bytes fits = bytes_are_lower bytes (data_is_bytes bytes fits)

data_cases : (word : List ℕ) (b : Bool) (r : Result (List ℕ) FromHexError) (bytes : List ℕ) → cond b (result_ok r) None ≡ Some bytes → (b ≡ true) × (r ≡ Ok bytes)
data_cases word true (Ok x) bytes e = (refl, cc)
data_cases word true (Err f) bytes e = absurd cc
data_cases word false r bytes e = absurd cc

-- what is read as bytes is their one spelling
pub data_is_spelled : (word bytes : List ℕ) → data_of word ≡ Some bytes → (word ≡ encode_lower bytes) × IsData bytes
unfolding data_of
data_is_spelled word bytes e =
    let parts = data_cases word (is_data_word word) (decode_of word) bytes e in
    let whole = data_word_is word parts.0 in
    let sizes = decode_of-ok word bytes parts.1 in
    (lower_pairs 0 word bytes whole.digits (sym (decode_of-even word sizes.0) ∙ parts.1), record { nonempty = omega (arith, whole.some, sizes.2); within = omega (arith, whole.few, sizes.2); each_byte = λ k d lt. rw (get_or_default bytes k d 0 lt) (sizes.3 k) })

pub data_of-encode_lower : (bytes : List ℕ) → IsData bytes → data_of (encode_lower bytes) ≡ Some bytes
unfolding data_of
data_of-encode_lower bytes fits =
    let sizes = length-encode_with lower_digits bytes in
    let test : is_data_word (encode_lower bytes) ≡ true = and_from _ _ (and_from _ _ (encoded_is_lower bytes fits) (ap not (ne_eqb (length (encode_lower bytes)) 0 (λ z. absurd (omega (arith, sizes, fits.nonempty)))))) (le-leb _ _ (omega (arith, sizes, fits.within))) in
    rw (test, decode_of-encode_lower bytes (data_is_bytes bytes fits)) refl

-- ---- reading digits in pairs

abbrev value_again : ℕ → Bool
value_again c = cond (is_lower_digit c) (get_or lower_digits (digit_value c) 0 == c) true

value_again_always : all_below value_again 128 ≡ true
unfolding all_below
value_again_always = refl

value_is_again : (c : ℕ) → is_lower_digit c ≡ true → get_or lower_digits (digit_value c) 0 ≡ c
value_is_again c e = eqb-true _ _ (rw e at (at_below value_again 128 c value_again_always (lower_is_small c e)))

value_is_small : (c : ℕ) → digit_value c < 16
value_is_small c =
    elim (cases_Bool (nat_lt c 97)) [
      | inl h ↦ rw h (omega arith)
      | inr h ↦ rw h (omega arith)
    ]

pub encode_lower-append : (xs ys : List ℕ) → encode_lower (xs ++ ys) ≡ encode_lower xs ++ encode_lower ys
unfolding encode_with
encode_lower-append [] ys = refl
encode_lower-append (x ∷ xs) ys = ap (λ (l : List ℕ). get_or lower_digits (x / 16) 0 ∷ get_or lower_digits (x % 16) 0 ∷ l) (encode_lower-append xs ys)

encode_one : (a b v : ℕ) → is_lower_digit a ≡ true → is_lower_digit b ≡ true → v ≡ digit_value a * 16 + digit_value b → encode_lower (v ∷ []) ≡ a ∷ b ∷ []
unfolding encode_with
encode_one a b v lower_a lower_b e =
    let small_a = value_is_small a in
    let small_b = value_is_small b in
    let high : v / 16 ≡ digit_value a = omega (arith, small_a, small_b, e) in
    let low : v % 16 ≡ digit_value b = omega (arith, small_a, small_b, e) in
    rw (high, low, value_is_again a lower_a, value_is_again b lower_b) refl

two_more : (word : List ℕ) (i : ℕ) → 2 * i + 1 < length word → take (2 * (i + 1)) word ≡ take (2 * i) word ++ get_or word (2 * i) 0 ∷ get_or word (2 * i + 1) 0 ∷ []
two_more word i lt =
    let one = take_more word (2 * i) 0 (omega arith) in
    let two = take_more word (2 * i + 1) 0 lt in
    let place : 2 * (i + 1) ≡ 2 * i + 1 + 1 = omega arith in
    ap (λ (n : ℕ). take n word) place ∙ two ∙ ap (λ (l : List ℕ). l ++ get_or word (2 * i + 1) 0 ∷ []) one ∙ append_assoc (take (2 * i) word) (get_or word (2 * i) 0 ∷ []) (get_or word (2 * i + 1) 0 ∷ [])

-- this many digits are read
pub record IsDecoded (valid : Bool) (word bytes : List ℕ) (i : ℕ) : Type 0 where
  pub valid_is : valid ≡ list_all is_lower_digit (take (2 * i) word)
  pub spelled : valid ≡ true → take (2 * i) word ≡ encode_lower (take i bytes)
  pub each_byte : IsBytes bytes

pub none_decoded : (word bytes : List ℕ) → IsBytes bytes → IsDecoded true word bytes 0
unfolding encode_with
none_decoded word bytes each = record { valid_is = refl; spelled = λ e. refl; each_byte = each }

set_byte : (bytes : List ℕ) (i v : ℕ) → i < length bytes → v < 256 → IsBytes bytes → IsBytes (set bytes i v)
set_byte bytes i v within small each k =
    elim (cases_eq k i) [
      | inl same ↦ rw (same, get_or-set_same bytes i v 0 within) small
      | inr other ↦ rw (get_or-set_other bytes i k v 0 other) (each k)
    ]

pub next_decoded : (valid : Bool) (word bytes : List ℕ) (i v : ℕ) → 2 * i + 1 < length word → i < length bytes → v ≡ digit_value (get_or word (2 * i) 0) * 16 + digit_value (get_or word (2 * i + 1) 0)
    → IsDecoded valid word bytes i → IsDecoded (valid && is_lower_digit (get_or word (2 * i) 0) && is_lower_digit (get_or word (2 * i + 1) 0)) word (set bytes i v) (i + 1)
next_decoded valid word bytes i v lt within e before = record {
  valid_is =
      let place : 2 * (i + 1) ≡ 2 * i + 1 + 1 = omega arith in
      rw (place, list_all_more is_lower_digit word (2 * i + 1) 0 lt, list_all_more is_lower_digit word (2 * i) 0 (omega arith), before.valid_is) refl;
  spelled = λ all.
      let two = and_parts (valid && is_lower_digit (get_or word (2 * i) 0)) (is_lower_digit (get_or word (2 * i + 1) 0)) all in
      let one = and_parts valid (is_lower_digit (get_or word (2 * i) 0)) two.0 in
      two_more word i lt
      ∙ ap (λ (l : List ℕ). l ++ get_or word (2 * i) 0 ∷ get_or word (2 * i + 1) 0 ∷ []) (before.spelled one.0)
      ∙ ap (λ (l : List ℕ). encode_lower (take i bytes) ++ l) (sym (encode_one (get_or word (2 * i) 0) (get_or word (2 * i + 1) 0) v one.1 two.1 e))
      ∙ sym (encode_lower-append (take i bytes) (v ∷ []))
      ∙ ap encode_lower (sym (take_more_set bytes i v within));
  each_byte = set_byte bytes i v within (omega (arith, value_is_small (get_or word (2 * i) 0), value_is_small (get_or word (2 * i + 1) 0), e)) before.each_byte;
}

-- ---- what is read as data

none_unless : (found : Option (List ℕ)) → ((bytes : List ℕ) → found ≡ Some bytes → ⊥) → found ≡ None
none_unless None h = refl
none_unless (Some bytes) h = absurd (h bytes refl)

-- a word of another length is not data
pub no_length : (word : List ℕ) → (not (length word == 0) && nat_le (length word) 8192 && (length word % 2 == 0)) ≡ false → data_of word ≡ None
no_length word e =
    none_unless (data_of word) (λ bytes h.
    let spelled = data_is_spelled word bytes h in
    let some = spelled.1.nonempty in
    let few = spelled.1.within in
    let size : length word ≡ 2 * length bytes = ap length spelled.0 ∙ length-encode_with lower_digits bytes in
    let test : (not (length word == 0) && nat_le (length word) 8192 && (length word % 2 == 0)) ≡ true =
    and_from _ _ (and_from _ _ (ap not (ne_eqb (length word) 0 (λ z. absurd (omega arith)))) (le-leb (length word) 8192 (omega arith))) (eq-eqb (length word % 2) 0 (omega arith)) in
    cc)

pub has_length : (word : List ℕ) → (not (length word == 0) && nat_le (length word) 8192 && (length word % 2 == 0)) ≡ true → (0 < length word) × (length word ≤ 8192) × (length word % 2 ≡ 0)
has_length word e =
    let a = and_parts (not (length word == 0) && nat_le (length word) 8192) (length word % 2 == 0) e in
    let b = and_parts (not (length word == 0)) (nat_le (length word) 8192) a.0 in
    let some : length word ≢ 0 = eqb-false _ _ (not-true _ b.0) in
    (omega arith, leb-true _ _ b.1, eqb-true _ _ a.1)

-- a word with a byte that is not a digit is not data
pub no_digits : (word : List ℕ) → list_all is_lower_digit word ≡ false → data_of word ≡ None
unfolding data_of
no_digits word e = rw e refl

made_is : (bytes : List ℕ) (found : Option (List ℕ)) → (0 < length bytes) × (length bytes ≤ 4096)
    → IsSome found ↔ ((0 < length bytes) × (length bytes ≤ 4096)) → IfSome found (λ made. made ≡ bytes) → found ≡ Some bytes
made_is bytes None fits valid value = absurd (let e : false ≡ true = valid.1 fits in cc)
made_is bytes (Some made) fits valid value = ap Some value

-- bytes that were written over others of the same number
pub written_over : (bytes others : List ℕ) (n : ℕ) → length bytes ≡ n → n ≡ length others → take n (bytes ++ drop (length bytes) others) ≡ bytes
written_over bytes others n size same =
    let none : drop (length bytes) others ≡ [] = drop_all (length bytes) others (omega arith) in
    ap (λ (l : List ℕ). take n (bytes ++ l)) none ∙ ap (take n) (append-nil bytes) ∙ take_all n bytes (omega arith)

-- a word that spells bytes is read as those bytes
pub read_as_spelled : (word bytes : List ℕ) → 0 < length word → length word ≤ 8192 → word ≡ encode_lower bytes → All (λ b. b < 256) bytes → data_of word ≡ Some bytes
read_as_spelled word bytes nonempty short spelled each =
    let size : length word ≡ 2 * length bytes = ap length spelled ∙ length-encode_with lower_digits bytes in
    ap data_of spelled ∙ data_of-encode_lower bytes (record { nonempty = omega (arith, nonempty, size); within = omega (arith, short, size); each_byte = each })

-- the bytes made of a word are what the word is read as
pub data_is_made : (word bytes : List ℕ) (found : Option (List ℕ)) → (not (length word == 0) && nat_le (length word) 8192 && (length word % 2 == 0)) ≡ true → word ≡ encode_lower bytes → All (λ b. b < 256) bytes
    → IsSome found ↔ ((0 < length bytes) × (length bytes ≤ 4096)) → IfSome found (λ made. made ≡ bytes) → found ≡ data_of word
data_is_made word bytes found e spelled each valid value =
    let sizes = has_length word e in
    let size : length word ≡ 2 * length bytes = ap length spelled ∙ length-encode_with lower_digits bytes in
    made_is bytes found (omega (arith, sizes.0, size), omega (arith, sizes.1, size)) valid value ∙ sym (read_as_spelled word bytes sizes.0 sizes.1 spelled each)

-- ---- digits that are only checked

byte-before : (v : ℕ) (bytes : List ℕ) → v < 256 → IsBytes bytes → IsBytes (v ∷ bytes)
byte-before v bytes small each zero = small
byte-before v bytes small each (suc k) = each k

no_bytes : IsBytes []
no_bytes k = let e : get_or [] k 0 ≡ 0 = get_or_past {X = ℕ} [] k 0 (omega arith) in omega (arith, e)

-- the bytes that a word of this many pairs of digits spells
spelled_by : (n : ℕ) (word : List ℕ) → length word ≡ 2 * n → list_all is_lower_digit word ≡ true → (bytes : List ℕ) × (word ≡ encode_lower bytes) × IsBytes bytes
unfolding encode_with
spelled_by zero [] size digits = ([], refl, no_bytes)
spelled_by zero (a ∷ word) size digits = absurd (omega arith)
spelled_by (suc n) [] size digits = absurd (omega arith)
spelled_by (suc n) (a ∷ []) size digits = absurd (omega arith)
spelled_by (suc n) (a ∷ b ∷ word) size digits =
    let one = and_parts (is_lower_digit a) (list_all is_lower_digit (b ∷ word)) digits in
    let two = and_parts (is_lower_digit b) (list_all is_lower_digit word) one.1 in
    let rest = spelled_by n word (omega arith) two.1 in
    let v = digit_value a * 16 + digit_value b in
    let small : v < 256 = omega (arith, value_is_small a, value_is_small b) in
    let spelled : encode_lower (v ∷ rest.0) ≡ a ∷ b ∷ word =
    encode_lower-append (v ∷ []) rest.0 ∙ ap (λ (l : List ℕ). l ++ encode_lower rest.0) (encode_one a b v one.0 two.0 refl) ∙ ap (λ (l : List ℕ). a ∷ b ∷ l) (sym rest.1) in
    (v ∷ rest.0, sym spelled, byte-before v rest.0 small rest.2)

-- zeros, as many as such a word spells bytes
pub blanked_word : (word : List ℕ) (n : ℕ) → (not (length word == 0) && nat_le (length word) 8192 && (length word % 2 == 0)) ≡ true → list_all is_lower_digit word ≡ true → n ≡ length word / 2
    → blanked_data (data_of word) ≡ Some (replicate n 0)
blanked_word word n e digits is =
    let sizes = has_length word e in
    let spelled = spelled_by n word (omega (arith, sizes.2, is)) digits in
    let size : length word ≡ 2 * length spelled.0 = ap length spelled.1 ∙ length-encode_with lower_digits spelled.0 in
    let same : length spelled.0 ≡ n = omega (arith, size, sizes.2, is) in
    let each : All (λ b. b < 256) spelled.0 = λ k d lt. rw (get_or_default spelled.0 k d 0 lt) (spelled.2 k) in
    ap blanked_data (read_as_spelled word spelled.0 sizes.0 sizes.1 spelled.1 each) ∙ ap (λ (k : ℕ). Some (replicate k 0)) same

-- zeros that were made are those
pub blanked_is_made : (word : List ℕ) (n : ℕ) (found : Option (List ℕ)) → (not (length word == 0) && nat_le (length word) 8192 && (length word % 2 == 0)) ≡ true → list_all is_lower_digit word ≡ true → n ≡ length word / 2
    → IsSome found ↔ ((0 < length (replicate {A = ℕ} n 0)) × (length (replicate {A = ℕ} n 0) ≤ 4096)) → IfSome found (λ made. made ≡ replicate n 0) → found ≡ blanked_data (data_of word)
blanked_is_made word n found e digits is valid value =
    let sizes = has_length word e in
    let size = length-replicate {A = ℕ} n 0 in
    made_is (replicate n 0) found (omega (arith, sizes.0, sizes.2, is, size), omega (arith, sizes.1, is, size)) valid value ∙ sym (blanked_word word n e digits is)
