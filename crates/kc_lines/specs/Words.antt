-- What a word of a line is read as: a number, or bytes.
use Rattle.std.specs.Prelude.{◌≡◌, ◌+◌, ◌*◌, ◌%◌, ◌^◌, ◌==◌, ◌&&◌, ◌||◌, not, nat_lt, nat_le, ℕ, Bool, List, [], ◌∷◌, length, replicate, slice_index, Option, Some, None, option_map, if◌then◌else◌}
use Rattle.std.specs.List.{list_all, slice_split}
use Rattle.std.specs.Result.{result_ok}
use Rattle.std.specs.Char.{is_ascii_digit}
use Rattle.std.specs.Str.Parse.{digits_value}
use Rattle.hex.specs.Hex.{decode_of}
use Rattle.kc_types.specs.Limits.{page_size}

-- some digits, without a leading zero unless it is the only digit
abbrev pub has_no_leading_zero : List ℕ → Bool
has_no_leading_zero digits = not (length digits == 0) && (length digits == 1 || not (slice_index digits 0 == 48))

-- digits without a leading zero
abbrev pub is_numeral : List ℕ → Bool
is_numeral word = list_all is_ascii_digit word && has_no_leading_zero word

-- the word as a number of 32 bits
unfoldable pub number_in : List ℕ → Option ℕ
number_in word = if is_numeral word && nat_lt (digits_value 10 word) (2 ^ 32) then Some (digits_value 10 word) else None

-- the line is one word, and this is it as a number
abbrev pub IsLastNumber : List ℕ → Option ℕ → Type 0
IsLastNumber line number = (slice_split (λ b. b == 32) line ≡ line ∷ []) × (number ≡ number_in line)

-- the first word of a line as a number, and what is after the space that follows it
abbrev pub IsFirstNumber : List ℕ → Option ℕ → List ℕ → Type 0
IsFirstNumber line number rest = (word : List ℕ) × (slice_split (λ b. b == 32) line ≡ word ∷ slice_split (λ b. b == 32) rest) × (number ≡ number_in word)

-- a lower case hexadecimal digit
abbrev pub is_lower_digit : ℕ → Bool
is_lower_digit c = (nat_le 48 c && nat_le c 57) || (nat_le 97 c && nat_le c 102)

-- the value of a lower case digit
abbrev pub digit_value : ℕ → ℕ
digit_value c = if nat_lt c 97 then c % 16 else (c % 16 + 9) % 16

-- 1 to 8,192 lower case digits
abbrev pub is_data_word : List ℕ → Bool
is_data_word word = list_all is_lower_digit word && not (length word == 0) && nat_le (length word) (2 * page_size)

-- the 1 to 4,096 bytes that the lower case digits spell
unfoldable pub data_of : List ℕ → Option (List ℕ)
data_of word = if is_data_word word then result_ok (decode_of word) else None

-- the 32 bytes that the 64 lower case digits spell
unfoldable pub digest_in : List ℕ → Option (List ℕ)
digest_in word = if length word == 64 then data_of word else None

-- a zero for each byte, if there are any
abbrev pub blanked_data : Option (List ℕ) → Option (List ℕ)
blanked_data found = option_map (λ bytes. replicate (length bytes) 0) found

-- the words of a text, if there is one
abbrev pub words_left : Option (List ℕ) → List (List ℕ)
words_left None = []
words_left (Some text) = slice_split (λ b. b == 32) text

-- something if no word is left
abbrev pub at_end : List (List ℕ) → Option (Unit {0})
at_end [] = Some tt
at_end (word ∷ words) = None
