-- A line that is read as a call is the call's line.
use Rattle.std.proofs.Common.{◌≡◌, ℕ, true, cond, List, [], ◌∷◌, length, Option, Some, None, refl, sym, ap, subst, ◌∙◌, arith, inl, inr, ◌<◌}
use Rattle.std.specs.Prelude.{codes, option_map, option_and_then}
use Rattle.std.specs.List.{slice_split, join_with_byte}
use Rattle.std.specs.Str.{bytes_eq}
use Rattle.std.specs.Fmt.{decimal}
use Rattle.std.proofs.lemmas.List.Splits.{join_with_byte-slice_split, length-slice_split}
use Rattle.hex.specs.Hex.{encode_lower}
use Rattle.kc_types.specs.Bytes.{IsData}
use Rattle.kc_types.specs.declared.call.Call.{Call}
use Rattle.kc_types.specs.declared.call.Call.TheVariants.{Take, Give, HostFault, HostRead, HostWrite, RegisterVm, RegisterVcpu, SetBoot, Remap, Verify, Map, GuestRead, GuestWrite, Grant, Revoke, GrantRange, RevokeRange, Drop, Clear}
use Rattle.kc_model.specs.Ranged.{IsWord, IsRanged}
use Rattle.kc_trace.specs.Spelling.{words_of, line_of}
use Rattle.kc_lines.specs.Words.{number_in, data_of}
use Rattle.kc_trace.specs.Reading.{one_word, with_one_number, with_two_numbers, with_three_numbers, with_four_numbers, host_access, read_guest_access, two_words, three_words, four_words, five_words, six_words, call_of_words, call_of}
use Rattle.kc_lines.proofs.Numbers.{number_is_decimal}
use Rattle.kc_lines.proofs.Digits.{data_is_spelled}
use Rattle.kc_lines.proofs.Words.{is_space, chosen, map_some, then_some, name_is}

-- these are the words of the call, and it is in range
record IsSpelled (words : List (List ℕ)) (call : Call) : Type 0 where
  words_are : words ≡ words_of call
  ranged : IsRanged call

is_named : (name text : List ℕ) (arguments : List (List ℕ)) (call : Call) → bytes_eq name text ≡ true → words_of call ≡ text ∷ arguments → IsRanged call → IsSpelled (name ∷ arguments) call
is_named name text arguments call e spelled fits = record { words_are = ap (λ (n : List ℕ). n ∷ arguments) (name_is name text e) ∙ sym spelled; ranged = fits }

-- one name is tried, and the rest if it is another
by_name : (name text : List ℕ) (arguments : List (List ℕ)) (made call : Call) (rest : Option Call) → words_of made ≡ text ∷ arguments → IsRanged made
    → (rest ≡ Some call → IsSpelled (name ∷ arguments) call) → cond (bytes_eq name text) (Some made) rest ≡ Some call → IsSpelled (name ∷ arguments) call
by_name name text arguments made call rest spelled fits others e =
    elim (chosen (bytes_eq name text) (Some made) rest (Some call) e) [
      | inl h ↦ let same : made ≡ call = cc in subst (IsSpelled (name ∷ arguments)) same (is_named name text arguments made h.0 spelled fits)
      | inr h ↦ others h.1
    ]

none_left : {words : List (List ℕ)} {call : Call} → None ≡ Some call → IsSpelled words call
none_left e = absurd cc

one_is : (name : List ℕ) (call : Call) → one_word name ≡ Some call → IsSpelled (name ∷ []) call
one_is name call e = by_name name (codes "take") [] Take call None refl tt none_left e

one_number_is : (name : List ℕ) (a : ℕ) (call : Call) → IsWord a → with_one_number name a ≡ Some call → IsSpelled (name ∷ decimal a ∷ []) call
one_number_is name a call fits e =
    by_name name (codes "give") (decimal a ∷ []) (Give a) call _ refl fits
    (by_name name (codes "hfault") (decimal a ∷ []) (HostFault a) call _ refl fits
    (by_name name (codes "regvm") (decimal a ∷ []) (RegisterVm a) call _ refl fits
    (by_name name (codes "verify") (decimal a ∷ []) (Verify a) call _ refl fits
    (by_name name (codes "clear") (decimal a ∷ []) (Clear a) call None refl fits none_left))))
    e

two_numbers_are : (name : List ℕ) (a b : ℕ) (call : Call) → IsWord a → IsWord b → with_two_numbers name a b ≡ Some call → IsSpelled (name ∷ decimal a ∷ decimal b ∷ []) call
two_numbers_are name a b call fits_a fits_b e = by_name name (codes "regvcpu") (decimal a ∷ decimal b ∷ []) (RegisterVcpu a b) call None refl (fits_a, fits_b) none_left e

three_numbers_are : (name : List ℕ) (a b c : ℕ) (call : Call) → IsWord a × IsWord b × IsWord c → with_three_numbers name a b c ≡ Some call → IsSpelled (name ∷ decimal a ∷ decimal b ∷ decimal c ∷ []) call
three_numbers_are name a b c call fits e =
    let arguments : List (List ℕ) = decimal a ∷ decimal b ∷ decimal c ∷ [] in
    by_name name (codes "hread") arguments (HostRead a b c) call _ refl fits
    (by_name name (codes "setboot") arguments (SetBoot a b c) call _ refl fits
    (by_name name (codes "remap") arguments (Remap a b c) call _ refl fits
    (by_name name (codes "map") arguments (Map a b c) call _ refl fits
    (by_name name (codes "grant") arguments (Grant a b c) call _ refl fits
    (by_name name (codes "revoke") arguments (Revoke a b c) call _ refl fits
    (by_name name (codes "drop") arguments (Drop a b c) call None refl fits none_left))))))
    e

four_numbers_are : (name : List ℕ) (a b c d : ℕ) (call : Call) → IsWord a × IsWord b × IsWord c × IsWord d → with_four_numbers name a b c d ≡ Some call → IsSpelled (name ∷ decimal a ∷ decimal b ∷ decimal c ∷ decimal d ∷ []) call
four_numbers_are name a b c d call fits e =
    let arguments : List (List ℕ) = decimal a ∷ decimal b ∷ decimal c ∷ decimal d ∷ [] in
    by_name name (codes "grantr") arguments (GrantRange a b c d) call _ refl fits
    (by_name name (codes "revoker") arguments (RevokeRange a b c d) call None refl fits none_left)
    e

-- the last word spells the bytes of a call with this name
bytes_are : (name text last : List ℕ) (arguments : List (List ℕ) → List (List ℕ)) (make : List ℕ → Call) (call : Call) → ((bytes : List ℕ) → words_of (make bytes) ≡ text ∷ arguments (encode_lower bytes ∷ []))
    → ((bytes : List ℕ) → IsData bytes → IsRanged (make bytes)) → bytes_eq name text ≡ true → option_map make (data_of last) ≡ Some call → IsSpelled (name ∷ arguments (last ∷ [])) call
bytes_are name text last arguments make call spelled fits named e =
    let bytes = map_some make (data_of last) call e in
    let read = data_is_spelled last bytes.0 bytes.1 in
    subst (λ (w : List ℕ). IsSpelled (name ∷ arguments (w ∷ [])) call) (sym read.0)
    (subst (IsSpelled (name ∷ arguments (encode_lower bytes.0 ∷ []))) bytes.2 (is_named name text (arguments (encode_lower bytes.0 ∷ [])) (make bytes.0) named (spelled bytes.0) (fits bytes.0 read.1)))

host_access_is : (name last : List ℕ) (a b : ℕ) (call : Call) → IsWord a → IsWord b → host_access name a b last ≡ Some call → IsSpelled (name ∷ decimal a ∷ decimal b ∷ last ∷ []) call
host_access_is name last a b call fits_a fits_b e =
    elim (chosen (bytes_eq name (codes "hwrite")) (option_map (HostWrite a b) (data_of last)) (option_and_then (with_three_numbers name a b) (number_in last)) (Some call) e) [
      | inl h ↦ bytes_are name (codes "hwrite") last (λ words. decimal a ∷ decimal b ∷ words) (HostWrite a b) call (λ bytes. refl) (λ bytes fits. (fits_a, fits_b, fits)) h.0 h.1
      | inr h ↦
          let c = then_some (with_three_numbers name a b) (number_in last) call h.1 in
          let number = number_is_decimal last c.0 c.1 in
          subst (λ (w : List ℕ). IsSpelled (name ∷ decimal a ∷ decimal b ∷ w ∷ []) call) (sym number.0) (three_numbers_are name a b c.0 call (fits_a, fits_b, number.1) c.2)
    ]

guest_access_is : (name last : List ℕ) (a b c d : ℕ) (call : Call) → IsWord a → IsWord b → IsWord c → IsWord d → read_guest_access name a b c d last ≡ Some call
    → IsSpelled (name ∷ decimal a ∷ decimal b ∷ decimal c ∷ decimal d ∷ last ∷ []) call
guest_access_is name last a b c d call fits_a fits_b fits_c fits_d e =
    elim (chosen (bytes_eq name (codes "gwrite")) (option_map (GuestWrite a b c d) (data_of last)) (cond (bytes_eq name (codes "gread")) (option_map (GuestRead a b c d) (number_in last)) None) (Some call) e) [
      | inl h ↦ bytes_are name (codes "gwrite") last (λ words. decimal a ∷ decimal b ∷ decimal c ∷ decimal d ∷ words) (GuestWrite a b c d) call (λ bytes. refl) (λ bytes fits. (fits_a, fits_b, fits_c, fits_d, fits)) h.0 h.1
      | inr h ↦ elim (chosen (bytes_eq name (codes "gread")) (option_map (GuestRead a b c d) (number_in last)) None (Some call) h.1) [
        | inl g ↦
            let len = map_some (GuestRead a b c d) (number_in last) call g.1 in
            let number = number_is_decimal last len.0 len.1 in
            let spelled = is_named name (codes "gread") (decimal a ∷ decimal b ∷ decimal c ∷ decimal d ∷ decimal len.0 ∷ []) (GuestRead a b c d len.0) g.0 refl (fits_a, fits_b, fits_c, fits_d, number.1) in
            subst (λ (w : List ℕ). IsSpelled (name ∷ decimal a ∷ decimal b ∷ decimal c ∷ decimal d ∷ w ∷ []) call) (sym number.0)
            (subst (IsSpelled (name ∷ decimal a ∷ decimal b ∷ decimal c ∷ decimal d ∷ decimal len.0 ∷ [])) len.2 spelled)
        | inr g ↦ absurd cc
      ]
    ]

-- a number is read, and what follows is true of the number
numeral_then : (word : List ℕ) (then : ℕ → Option Call) (call : Call) (spelled : List ℕ → Type 0) → ((a : ℕ) → IsWord a → then a ≡ Some call → spelled (decimal a)) → option_and_then then (number_in word) ≡ Some call → spelled word
numeral_then word then call spelled holds e =
    let a = then_some then (number_in word) call e in
    let number = number_is_decimal word a.0 a.1 in
    subst spelled (sym number.0) (holds a.0 number.1 a.2)

two_are : (name first : List ℕ) (call : Call) → two_words name first ≡ Some call → IsSpelled (name ∷ first ∷ []) call
two_are name first call e = numeral_then first (with_one_number name) call (λ w. IsSpelled (name ∷ w ∷ []) call) (λ a fits h. one_number_is name a call fits h) e

three_are : (name first second : List ℕ) (call : Call) → three_words name first second ≡ Some call → IsSpelled (name ∷ first ∷ second ∷ []) call
three_are name first second call e =
    numeral_then first (λ a. option_and_then (with_two_numbers name a) (number_in second)) call (λ w. IsSpelled (name ∷ w ∷ second ∷ []) call)
    (λ a fits_a. numeral_then second (with_two_numbers name a) call (λ w. IsSpelled (name ∷ decimal a ∷ w ∷ []) call) (λ b fits_b h. two_numbers_are name a b call fits_a fits_b h)) e

four_are : (name first second third : List ℕ) (call : Call) → four_words name first second third ≡ Some call → IsSpelled (name ∷ first ∷ second ∷ third ∷ []) call
four_are name first second third call e =
    numeral_then first (λ a. option_and_then (λ b. host_access name a b third) (number_in second)) call (λ w. IsSpelled (name ∷ w ∷ second ∷ third ∷ []) call)
    (λ a fits_a. numeral_then second (λ b. host_access name a b third) call (λ w. IsSpelled (name ∷ decimal a ∷ w ∷ third ∷ []) call) (λ b fits_b h. host_access_is name third a b call fits_a fits_b h)) e

last_two_are : (name third fourth : List ℕ) (a b : ℕ) (call : Call) → IsWord a → IsWord b → option_and_then (λ c. option_and_then (with_four_numbers name a b c) (number_in fourth)) (number_in third) ≡ Some call
    → IsSpelled (name ∷ decimal a ∷ decimal b ∷ third ∷ fourth ∷ []) call
last_two_are name third fourth a b call fits_a fits_b e =
    numeral_then third (λ c. option_and_then (with_four_numbers name a b c) (number_in fourth)) call (λ w. IsSpelled (name ∷ decimal a ∷ decimal b ∷ w ∷ fourth ∷ []) call)
    (λ c fits_c. numeral_then fourth (with_four_numbers name a b c) call (λ w. IsSpelled (name ∷ decimal a ∷ decimal b ∷ decimal c ∷ w ∷ []) call) (λ d fits_d h. four_numbers_are name a b c d call (fits_a, fits_b, fits_c, fits_d) h)) e

five_are : (name first second third fourth : List ℕ) (call : Call) → five_words name first second third fourth ≡ Some call → IsSpelled (name ∷ first ∷ second ∷ third ∷ fourth ∷ []) call
five_are name first second third fourth call e =
    numeral_then first (λ a. option_and_then (λ b. option_and_then (λ c. option_and_then (with_four_numbers name a b c) (number_in fourth)) (number_in third)) (number_in second)) call (λ w. IsSpelled (name ∷ w ∷ second ∷ third ∷ fourth ∷ []) call)
    (λ a fits_a. numeral_then second (λ b. option_and_then (λ c. option_and_then (with_four_numbers name a b c) (number_in fourth)) (number_in third)) call (λ w. IsSpelled (name ∷ decimal a ∷ w ∷ third ∷ fourth ∷ []) call) (λ b fits_b h. last_two_are name third fourth a b call fits_a fits_b h)) e

guest_are : (name third fourth last : List ℕ) (a b : ℕ) (call : Call) → IsWord a → IsWord b → option_and_then (λ c. option_and_then (λ d. read_guest_access name a b c d last) (number_in fourth)) (number_in third) ≡ Some call
    → IsSpelled (name ∷ decimal a ∷ decimal b ∷ third ∷ fourth ∷ last ∷ []) call
guest_are name third fourth last a b call fits_a fits_b e =
    numeral_then third (λ c. option_and_then (λ d. read_guest_access name a b c d last) (number_in fourth)) call (λ w. IsSpelled (name ∷ decimal a ∷ decimal b ∷ w ∷ fourth ∷ last ∷ []) call)
    (λ c fits_c. numeral_then fourth (λ d. read_guest_access name a b c d last) call (λ w. IsSpelled (name ∷ decimal a ∷ decimal b ∷ decimal c ∷ w ∷ last ∷ []) call) (λ d fits_d h. guest_access_is name last a b c d call fits_a fits_b fits_c fits_d h)) e

six_are : (name first second third fourth fifth : List ℕ) (call : Call) → six_words name first second third fourth fifth ≡ Some call → IsSpelled (name ∷ first ∷ second ∷ third ∷ fourth ∷ fifth ∷ []) call
six_are name first second third fourth fifth call e =
    numeral_then first (λ a. option_and_then (λ b. option_and_then (λ c. option_and_then (λ d. read_guest_access name a b c d fifth) (number_in fourth)) (number_in third)) (number_in second)) call
    (λ w. IsSpelled (name ∷ w ∷ second ∷ third ∷ fourth ∷ fifth ∷ []) call)
    (λ a fits_a. numeral_then second (λ b. option_and_then (λ c. option_and_then (λ d. read_guest_access name a b c d fifth) (number_in fourth)) (number_in third)) call (λ w. IsSpelled (name ∷ decimal a ∷ w ∷ third ∷ fourth ∷ fifth ∷ []) call)
    (λ b fits_b h. guest_are name third fourth fifth a b call fits_a fits_b h)) e

words_are_spelled : (words : List (List ℕ)) (call : Call) → call_of_words words ≡ Some call → IsSpelled words call
unfolding call_of_words
words_are_spelled [] call e = absurd cc
words_are_spelled (name ∷ []) call e = one_is name call e
words_are_spelled (name ∷ first ∷ []) call e = two_are name first call e
words_are_spelled (name ∷ first ∷ second ∷ []) call e = three_are name first second call e
words_are_spelled (name ∷ first ∷ second ∷ third ∷ []) call e = four_are name first second third call e
words_are_spelled (name ∷ first ∷ second ∷ third ∷ fourth ∷ []) call e = five_are name first second third fourth call e
words_are_spelled (name ∷ first ∷ second ∷ third ∷ fourth ∷ fifth ∷ []) call e = six_are name first second third fourth fifth call e
words_are_spelled (name ∷ first ∷ second ∷ third ∷ fourth ∷ fifth ∷ sixth ∷ more) call e = absurd cc

-- what is read as a call is the call's line
pub line_is_spelled : (line : List ℕ) (call : Call) → call_of line ≡ Some call → (line ≡ line_of call) × IsRanged call
line_is_spelled line call e =
    let words = words_are_spelled (slice_split is_space line) call e in
    (sym (join_with_byte-slice_split 32 line) ∙ ap (join_with_byte 32) words.words_are, words.ranged)

-- ---- one word more than any call has

beyond : (a b c d e f : List ℕ) (words : List (List ℕ)) → 0 < length words → call_of_words (a ∷ b ∷ c ∷ d ∷ e ∷ f ∷ words) ≡ None
unfolding call_of_words
beyond a b c d e f [] some = absurd (omega arith)
beyond a b c d e f (word ∷ words) some = refl

pub too_many_words : (a b c d e f first second third fourth fifth sixth line : List ℕ) → slice_split is_space line ≡ a ∷ slice_split is_space first → slice_split is_space first ≡ b ∷ slice_split is_space second
    → slice_split is_space second ≡ c ∷ slice_split is_space third → slice_split is_space third ≡ d ∷ slice_split is_space fourth → slice_split is_space fourth ≡ e ∷ slice_split is_space fifth
    → slice_split is_space fifth ≡ f ∷ slice_split is_space sixth → None ≡ call_of_words (slice_split is_space line)
too_many_words a b c d e f first second third fourth fifth sixth line cut_1 cut_2 cut_3 cut_4 cut_5 cut_6 =
    rw (cut_1, cut_2, cut_3, cut_4, cut_5, cut_6) (sym (beyond a b c d e f (slice_split is_space sixth) (omega (arith, length-slice_split is_space sixth))))
