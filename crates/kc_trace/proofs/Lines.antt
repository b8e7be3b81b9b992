-- A call's line is read as the call.
use Rattle.std.proofs.Common.{◌≡◌, ◌≤◌, ◌<◌, ℕ, true, false, List, [], ◌∷◌, length, Some, refl, ap, ◌∙◌, arith}
use Rattle.std.specs.Prelude.{codes}
use Rattle.std.specs.List.{list_all, slice_split, join_with_byte}
use Rattle.std.specs.Str.{bytes_eq}
use Rattle.std.specs.Fmt.{decimal}
use Rattle.std.proofs.lemmas.Fmt.{length-decimal-le}
use Rattle.hex.specs.Hex.{encode_lower, lower_digits}
use Rattle.hex.proofs.HexLemmas.{length-encode_with}
use Rattle.kc_types.specs.Bytes.{IsData}
use Rattle.kc_types.specs.declared.call.Call.{Call}
use Rattle.kc_types.specs.declared.call.Call.TheVariants.{Take, Give, HostFault, HostRead, HostWrite, RegisterVm, RegisterVcpu, SetBoot, Remap, Verify, Map, GuestRead, GuestWrite, Grant, Revoke, GrantRange, RevokeRange, Drop, Clear}
use Rattle.kc_model.specs.Ranged.{IsWord, IsRanged}
use Rattle.kc_types.specs.Limits.{line_limit}
use Rattle.kc_trace.specs.Spelling.{words_of, line_of}
use Rattle.kc_trace.specs.Reading.{with_three_numbers, four_words, call_of_words, call_of}
use Rattle.kc_lines.specs.Lines.{IsOneLine}
use Rattle.kc_lines.proofs.Numbers.{number_of-decimal}
use Rattle.kc_lines.proofs.Digits.{data_of-encode_lower}
use Rattle.kc_lines.proofs.Words.{is_space, is_word, width, split_join, join_is_one_line, length-join, decimal_is_word, encoded_is_word}

-- ---- the words of a call, read

three_read : (name : List ℕ) (a b c : ℕ) → IsWord a → IsWord b → IsWord c → bytes_eq name (codes "hwrite") ≡ false → four_words name (decimal a) (decimal b) (decimal c) ≡ with_three_numbers name a b c
three_read name a b c fits_a fits_b fits_c other = rw (number_of-decimal a fits_a, number_of-decimal b fits_b, other, number_of-decimal c fits_c) refl

call_of_words-words_of : (call : Call) → IsRanged call → call_of_words (words_of call) ≡ Some call
unfolding call_of_words
call_of_words-words_of Take fits = refl
call_of_words-words_of (Give a) fits = rw (number_of-decimal a fits) refl
call_of_words-words_of (HostFault a) fits = rw (number_of-decimal a fits) refl
call_of_words-words_of (HostRead a b c) fits = three_read (codes "hread") a b c fits.0 fits.1 fits.2 refl
call_of_words-words_of (HostWrite a b bytes) fits = rw (number_of-decimal a fits.0, number_of-decimal b fits.1, data_of-encode_lower bytes fits.2) refl
call_of_words-words_of (RegisterVm a) fits = rw (number_of-decimal a fits) refl
call_of_words-words_of (RegisterVcpu a b) fits = rw (number_of-decimal a fits.0, number_of-decimal b fits.1) refl
call_of_words-words_of (SetBoot a b c) fits = three_read (codes "setboot") a b c fits.0 fits.1 fits.2 refl
call_of_words-words_of (Remap a b c) fits = three_read (codes "remap") a b c fits.0 fits.1 fits.2 refl
call_of_words-words_of (Verify a) fits = rw (number_of-decimal a fits) refl
call_of_words-words_of (Map a b c) fits = three_read (codes "map") a b c fits.0 fits.1 fits.2 refl
call_of_words-words_of (GuestRead a b c d e) fits =
    rw (number_of-decimal a fits.0, number_of-decimal b fits.1, number_of-decimal c fits.2, number_of-decimal d fits.3, number_of-decimal e fits.4) refl
call_of_words-words_of (GuestWrite a b c d bytes) fits =
    rw (number_of-decimal a fits.0, number_of-decimal b fits.1, number_of-decimal c fits.2, number_of-decimal d fits.3, data_of-encode_lower bytes fits.4) refl
call_of_words-words_of (Grant a b c) fits = three_read (codes "grant") a b c fits.0 fits.1 fits.2 refl
call_of_words-words_of (Revoke a b c) fits = three_read (codes "revoke") a b c fits.0 fits.1 fits.2 refl
call_of_words-words_of (GrantRange a b c d) fits = rw (number_of-decimal a fits.0, number_of-decimal b fits.1, number_of-decimal c fits.2, number_of-decimal d fits.3) refl
call_of_words-words_of (RevokeRange a b c d) fits = rw (number_of-decimal a fits.0, number_of-decimal b fits.1, number_of-decimal c fits.2, number_of-decimal d fits.3) refl
call_of_words-words_of (Drop a b c) fits = three_read (codes "drop") a b c fits.0 fits.1 fits.2 refl
call_of_words-words_of (Clear a) fits = rw (number_of-decimal a fits) refl

-- ---- the words of a call are words

abbrev AreWords : List (List ℕ) → Type 0
AreWords words = list_all is_word words ≡ true

one_is_word : (a : ℕ) → IsWord a → AreWords (decimal a ∷ [])
one_is_word a fits_a = rw (decimal_is_word a fits_a) refl

two_are_words : (a b : ℕ) → IsWord a → IsWord b → AreWords (decimal a ∷ decimal b ∷ [])
two_are_words a b fits_a fits_b = rw (decimal_is_word a fits_a, decimal_is_word b fits_b) refl

three_are_words : (a b c : ℕ) → IsWord a → IsWord b → IsWord c → AreWords (decimal a ∷ decimal b ∷ decimal c ∷ [])
three_are_words a b c fits_a fits_b fits_c = rw (decimal_is_word a fits_a) (two_are_words b c fits_b fits_c)

words_are_words : (call : Call) → IsRanged call → AreWords (words_of call)
words_are_words Take fits = refl
words_are_words (Give a) fits = one_is_word a fits
words_are_words (HostFault a) fits = one_is_word a fits
words_are_words (HostRead a b c) fits = three_are_words a b c fits.0 fits.1 fits.2
words_are_words (HostWrite a b bytes) fits = rw (decimal_is_word a fits.0, decimal_is_word b fits.1, encoded_is_word bytes fits.2) refl
words_are_words (RegisterVm a) fits = one_is_word a fits
words_are_words (RegisterVcpu a b) fits = two_are_words a b fits.0 fits.1
words_are_words (SetBoot a b c) fits = three_are_words a b c fits.0 fits.1 fits.2
words_are_words (Remap a b c) fits = three_are_words a b c fits.0 fits.1 fits.2
words_are_words (Verify a) fits = one_is_word a fits
words_are_words (Map a b c) fits = three_are_words a b c fits.0 fits.1 fits.2
words_are_words (GuestRead a b c d e) fits = rw (decimal_is_word a fits.0, decimal_is_word b fits.1) (three_are_words c d e fits.2 fits.3 fits.4)
words_are_words (GuestWrite a b c d bytes) fits =
    rw (decimal_is_word a fits.0, decimal_is_word b fits.1, decimal_is_word c fits.2, decimal_is_word d fits.3, encoded_is_word bytes fits.4) refl
words_are_words (Grant a b c) fits = three_are_words a b c fits.0 fits.1 fits.2
words_are_words (Revoke a b c) fits = three_are_words a b c fits.0 fits.1 fits.2
words_are_words (GrantRange a b c d) fits = rw (decimal_is_word a fits.0) (three_are_words b c d fits.1 fits.2 fits.3)
words_are_words (RevokeRange a b c d) fits = rw (decimal_is_word a fits.0) (three_are_words b c d fits.1 fits.2 fits.3)
words_are_words (Drop a b c) fits = three_are_words a b c fits.0 fits.1 fits.2
words_are_words (Clear a) fits = one_is_word a fits

-- ---- no line is longer than the longest

ten_digits : (n : ℕ) → IsWord n → length (decimal n) ≤ 10
ten_digits n lt = length-decimal-le 10 n (omega arith) (omega arith) (omega arith)

digits_fit : (bytes : List ℕ) → IsData bytes → length (encode_lower bytes) ≤ 8192
digits_fit bytes fits = let few = fits.within in omega (arith, length-encode_with lower_digits bytes)

one_fits : (a : ℕ) → IsWord a → width (decimal a ∷ []) ≤ 11
one_fits a fits_a = omega (arith, ten_digits a fits_a)

two_fit : (a b : ℕ) → IsWord a → IsWord b → width (decimal a ∷ decimal b ∷ []) ≤ 22
two_fit a b fits_a fits_b = omega (arith, ten_digits a fits_a, ten_digits b fits_b)

three_fit : (a b c : ℕ) → IsWord a → IsWord b → IsWord c → width (decimal a ∷ decimal b ∷ decimal c ∷ []) ≤ 33
three_fit a b c fits_a fits_b fits_c = omega (arith, ten_digits a fits_a, two_fit b c fits_b fits_c)

-- a name of at most seven letters, and what follows it
fits_after : (name : List ℕ) (words : List (List ℕ)) → length name ≤ 7 → width words ≤ 8236 → length (join_with_byte 32 (name ∷ words)) ≤ line_limit
fits_after name words short few = omega (arith, length-join name words)

fits_three : (name : List ℕ) (a b c : ℕ) → length name ≤ 7 → IsWord a → IsWord b → IsWord c → length (join_with_byte 32 (name ∷ decimal a ∷ decimal b ∷ decimal c ∷ [])) ≤ line_limit
fits_three name a b c short fits_a fits_b fits_c = fits_after name (decimal a ∷ decimal b ∷ decimal c ∷ []) short (omega (arith, three_fit a b c fits_a fits_b fits_c))

fits_four : (name : List ℕ) (a b c d : ℕ) → length name ≤ 7 → IsWord a → IsWord b → IsWord c → IsWord d → length (join_with_byte 32 (name ∷ decimal a ∷ decimal b ∷ decimal c ∷ decimal d ∷ [])) ≤ line_limit
fits_four name a b c d short fits_a fits_b fits_c fits_d = fits_after name (decimal a ∷ decimal b ∷ decimal c ∷ decimal d ∷ []) short (omega (arith, two_fit a b fits_a fits_b, two_fit c d fits_c fits_d))

pub line_fits : (call : Call) → IsRanged call → length (line_of call) ≤ line_limit
line_fits Take fits = omega arith
line_fits (Give a) fits = fits_after (codes "give") (decimal a ∷ []) (omega arith) (omega (arith, one_fits a fits))
line_fits (HostFault a) fits = fits_after (codes "hfault") (decimal a ∷ []) (omega arith) (omega (arith, one_fits a fits))
line_fits (HostRead a b c) fits = fits_three (codes "hread") a b c (omega arith) fits.0 fits.1 fits.2
line_fits (HostWrite a b bytes) fits =
    fits_after (codes "hwrite") (decimal a ∷ decimal b ∷ encode_lower bytes ∷ []) (omega arith) (omega (arith, ten_digits a fits.0, ten_digits b fits.1, digits_fit bytes fits.2))
line_fits (RegisterVm a) fits = fits_after (codes "regvm") (decimal a ∷ []) (omega arith) (omega (arith, one_fits a fits))
line_fits (RegisterVcpu a b) fits = fits_after (codes "regvcpu") (decimal a ∷ decimal b ∷ []) (omega arith) (omega (arith, two_fit a b fits.0 fits.1))
line_fits (SetBoot a b c) fits = fits_three (codes "setboot") a b c (omega arith) fits.0 fits.1 fits.2
line_fits (Remap a b c) fits = fits_three (codes "remap") a b c (omega arith) fits.0 fits.1 fits.2
line_fits (Verify a) fits = fits_after (codes "verify") (decimal a ∷ []) (omega arith) (omega (arith, one_fits a fits))
line_fits (Map a b c) fits = fits_three (codes "map") a b c (omega arith) fits.0 fits.1 fits.2
line_fits (GuestRead a b c d e) fits =
    fits_after (codes "gread") (decimal a ∷ decimal b ∷ decimal c ∷ decimal d ∷ decimal e ∷ []) (omega arith) (omega (arith, two_fit a b fits.0 fits.1, three_fit c d e fits.2 fits.3 fits.4))
line_fits (GuestWrite a b c d bytes) fits =
    omega (
      arith,
      length-join (codes "gwrite") (decimal a ∷ decimal b ∷ decimal c ∷ decimal d ∷ encode_lower bytes ∷ []),
      two_fit a b fits.0 fits.1,
      two_fit c d fits.2 fits.3,
      digits_fit bytes fits.4,
    )
line_fits (Grant a b c) fits = fits_three (codes "grant") a b c (omega arith) fits.0 fits.1 fits.2
line_fits (Revoke a b c) fits = fits_three (codes "revoke") a b c (omega arith) fits.0 fits.1 fits.2
line_fits (GrantRange a b c d) fits = fits_four (codes "grantr") a b c d (omega arith) fits.0 fits.1 fits.2 fits.3
line_fits (RevokeRange a b c d) fits = fits_four (codes "revoker") a b c d (omega arith) fits.0 fits.1 fits.2 fits.3
line_fits (Drop a b c) fits = fits_three (codes "drop") a b c (omega arith) fits.0 fits.1 fits.2
line_fits (Clear a) fits = fits_after (codes "clear") (decimal a ∷ []) (omega arith) (omega (arith, one_fits a fits))

-- ---- the line of a call

abbrev IsNonempty : List (List ℕ) → Type 0
IsNonempty words = 0 < length words

some_words : (call : Call) → IsNonempty (words_of call)
some_words Take = omega arith
some_words (Give a) = omega arith
some_words (HostFault a) = omega arith
some_words (HostRead a b c) = omega arith
some_words (HostWrite a b bytes) = omega arith
some_words (RegisterVm a) = omega arith
some_words (RegisterVcpu a b) = omega arith
some_words (SetBoot a b c) = omega arith
some_words (Remap a b c) = omega arith
some_words (Verify a) = omega arith
some_words (Map a b c) = omega arith
some_words (GuestRead a b c d e) = omega arith
some_words (GuestWrite a b c d bytes) = omega arith
some_words (Grant a b c) = omega arith
some_words (Revoke a b c) = omega arith
some_words (GrantRange a b c d) = omega arith
some_words (RevokeRange a b c d) = omega arith
some_words (Drop a b c) = omega arith
some_words (Clear a) = omega arith

joined_is_split : (words : List (List ℕ)) → IsNonempty words → AreWords words → slice_split is_space (join_with_byte 32 words) ≡ words
joined_is_split [] some e = absurd (omega arith)
joined_is_split (word ∷ words) some e = split_join word words e

joined_is_one : (words : List (List ℕ)) → IsNonempty words → AreWords words → IsOneLine (join_with_byte 32 words)
joined_is_one [] some e = absurd (omega arith)
joined_is_one (word ∷ words) some e = join_is_one_line word words e

pub line_is_one : (call : Call) → IsRanged call → IsOneLine (line_of call)
line_is_one call fits = joined_is_one (words_of call) (some_words call) (words_are_words call fits)

-- a call's line is read as the call
pub call_of-line_of : (call : Call) → IsRanged call → call_of (line_of call) ≡ Some call
call_of-line_of call ranged =
    ap call_of_words (joined_is_split (words_of call) (some_words call) (words_are_words call ranged)) ∙ call_of_words-words_of call ranged
