-- A line whose words are cut off one after another is read according to their number.
use Rattle.std.proofs.Common.{◌≡◌, ◌<◌, ℕ, true, false, List, [], ◌∷◌, length, Option, Some, None, refl, sym, arith}
use Rattle.std.specs.Prelude.{codes, option_map, option_and_then}
use Rattle.std.specs.List.{slice_split}
use Rattle.std.specs.Str.{bytes_eq}
use Rattle.std.proofs.lemmas.List.Splits.{length-slice_split}
use Rattle.kc_types.specs.declared.call.Call.{Call}
use Rattle.kc_types.specs.declared.call.Call.TheVariants.{HostWrite}
use Rattle.kc_lines.specs.Words.{number_in, data_of, IsLastNumber, IsFirstNumber}
use Rattle.kc_lines.proofs.Words.{is_space, name_is}
use Rattle.kc_trace.specs.Reading.{one_word, with_one_number, with_two_numbers, with_three_numbers, with_four_numbers, read_guest_access, call_of_words, call_of}

pub one_word_read : (line : List ℕ) → slice_split is_space line ≡ line ∷ [] → one_word line ≡ call_of line
unfolding call_of_words
one_word_read line cut = rw cut refl

pub two_words_read : (name line rest : List ℕ) (a : Option ℕ) → slice_split is_space line ≡ name ∷ slice_split is_space rest → IsLastNumber rest a → option_and_then (with_one_number name) a ≡ call_of line
unfolding call_of_words
two_words_read name line rest a cut first = rw (cut, first.0, first.1) refl

pub three_words_read : (name line rest rest_1 : List ℕ) (a b : Option ℕ) → slice_split is_space line ≡ name ∷ slice_split is_space rest → IsFirstNumber rest a rest_1 → IsLastNumber rest_1 b
    → option_and_then (λ x. option_and_then (with_two_numbers name x) b) a ≡ call_of line
unfolding call_of_words
three_words_read name line rest rest_1 a b cut first second = rw (cut, first.1, first.2, second.0, second.1) refl

-- a name other than `hwrite`
pub four_words_read : (name line rest rest_1 rest_2 : List ℕ) (a b c : Option ℕ) → slice_split is_space line ≡ name ∷ slice_split is_space rest → IsFirstNumber rest a rest_1 → IsFirstNumber rest_1 b rest_2 → IsLastNumber rest_2 c
    → bytes_eq name (codes "hwrite") ≡ false → option_and_then (λ x. option_and_then (λ y. option_and_then (with_three_numbers name x y) c) b) a ≡ call_of line
unfolding call_of_words
four_words_read name line rest rest_1 rest_2 a b c cut first second third other = rw (cut, first.1, first.2, second.1, second.2, third.0, third.1, other) refl

pub five_words_read : (name line rest rest_1 rest_2 rest_3 : List ℕ) (a b c d : Option ℕ) → slice_split is_space line ≡ name ∷ slice_split is_space rest → IsFirstNumber rest a rest_1 → IsFirstNumber rest_1 b rest_2 → IsFirstNumber rest_2 c rest_3 → IsLastNumber rest_3 d
    → option_and_then (λ x. option_and_then (λ y. option_and_then (λ z. option_and_then (with_four_numbers name x y z) d) c) b) a ≡ call_of line
unfolding call_of_words
five_words_read name line rest rest_1 rest_2 rest_3 a b c d cut first second third fourth = rw (cut, first.1, first.2, second.1, second.2, third.1, third.2, fourth.0, fourth.1) refl

pub six_words_read : (name line rest rest_1 rest_2 rest_3 rest_4 : List ℕ) (a b c d : Option ℕ) → slice_split is_space line ≡ name ∷ slice_split is_space rest → IsFirstNumber rest a rest_1 → IsFirstNumber rest_1 b rest_2 → IsFirstNumber rest_2 c rest_3 → IsFirstNumber rest_3 d rest_4
    → slice_split is_space rest_4 ≡ rest_4 ∷ [] → option_and_then (λ x. option_and_then (λ y. option_and_then (λ z. option_and_then (λ w. read_guest_access name x y z w rest_4) d) c) b) a ≡ call_of line
unfolding call_of_words
six_words_read name line rest rest_1 rest_2 rest_3 rest_4 a b c d cut first second third fourth last = rw (cut, first.1, first.2, second.1, second.2, third.1, third.2, fourth.1, fourth.2, last) refl

-- `hwrite`, two numbers and bytes
pub host_write_read : (name line rest rest_1 rest_2 : List ℕ) (a b : Option ℕ) → slice_split is_space line ≡ name ∷ slice_split is_space rest → IsFirstNumber rest a rest_1 → IsFirstNumber rest_1 b rest_2 → slice_split is_space rest_2 ≡ rest_2 ∷ []
    → bytes_eq name (codes "hwrite") ≡ true → option_and_then (λ x. option_and_then (λ y. option_map (HostWrite x y) (data_of rest_2)) b) a ≡ call_of line
unfolding call_of_words
host_write_read name line rest rest_1 rest_2 a b cut first second last own = rw (cut, first.1, first.2, second.1, second.2, last, own) refl

none_of : (o : Option ℕ) (f : ℕ → Option Call) → ((n : ℕ) → f n ≡ None) → option_and_then f o ≡ None
none_of None f h = refl
none_of (Some n) f h = h n

-- no call of this name has more words
longer : (a b c : List ℕ) (words : List (List ℕ)) → 0 < length words → call_of_words (codes "hwrite" ∷ a ∷ b ∷ c ∷ words) ≡ None
unfolding call_of_words
longer a b c [] some = absurd (omega arith)
longer a b c (d ∷ []) some = none_of (number_in a) _ (λ x. none_of (number_in b) _ (λ y. none_of (number_in c) _ (λ z. none_of (number_in d) _ (λ w. refl))))
longer a b c (d ∷ e ∷ []) some = none_of (number_in a) _ (λ x. none_of (number_in b) _ (λ y. none_of (number_in c) _ (λ z. none_of (number_in d) _ (λ w. refl))))
longer a b c (d ∷ e ∷ f ∷ words) some = refl

pub longer_host_write : (name line rest rest_1 rest_2 word rest_3 : List ℕ) (a b : Option ℕ) → slice_split is_space line ≡ name ∷ slice_split is_space rest → IsFirstNumber rest a rest_1 → IsFirstNumber rest_1 b rest_2
    → slice_split is_space rest_2 ≡ word ∷ slice_split is_space rest_3 → bytes_eq name (codes "hwrite") ≡ true → None ≡ call_of line
longer_host_write name line rest rest_1 rest_2 word rest_3 a b cut first second third own =
    rw (cut, first.1, second.1, third, name_is name (codes "hwrite") own) (sym (longer first.0 second.0 word (slice_split is_space rest_3) (omega (arith, length-slice_split is_space rest_3))))
