-- Words and lines of a head have one spelling.
use Rattle.std.proofs.Common.{ℕ, ◌≡◌, ◌≢◌, ◌≤◌, Bool, true, false, cond, List, [], ◌∷◌, ◌++◌, length, map, Option, Some, None, refl, sym, ap, subst, ◌∙◌, arith, inl, inr, append_assoc, append-nil}
use Rattle.std.specs.Prelude.{◌==◌, ◌+◌, ◌||◌, ◌&&◌, nat_le, nat_lt, is_none, option_map, codes, option_and_then}
use Rattle.std.specs.Str.{bytes_eq}
use Rattle.std.specs.List.{AllByRecursion, flat_map, join_with_byte, list_all}
use Rattle.std.specs.Fmt.{decimal}
use Rattle.std.proofs.lemmas.Bool.{eq-eqb, eqb-true, eqb-false, ne_eqb, le-ltb, ltb-false, or_parts, and_parts, le-leb, leb-true, false_from_ne_true}
use Rattle.std.proofs.lemmas.List.Splits.{join_with_byte-slice_split}
use Rattle.std.proofs.lemmas.Grind.{flat_map-append}
use Rattle.kc_trace.specs.declared.header.Head.{Head}
use Rattle.kc_trace.specs.declared.header.Position.{Position}
use Rattle.kc_trace.specs.declared.header.Position.TheVariants.{First, Later}
use Rattle.kc_trace.specs.declared.header.Header.TheVariants.{Three}
use Rattle.kc_trace.specs.Header.{Begun, IsPosition, version_number, machine_numbers, machine_line, approved_line, position_words, redaction_words, last_line, position_line, head_lines, ended_lines}
use Rattle.hex.specs.Hex.{encode_lower, lower_digits}
use Rattle.hex.proofs.HexLemmas.{length-encode_with}
use Rattle.kc_model.specs.Volumes.{IsDigest}
use Rattle.kc_types.specs.Bytes.{IsData}
use Rattle.kc_types.specs.Limits.{digest_limit}
use Rattle.kc_types.specs.Configuration.{Configuration, IsConfiguration, most_frames, most_leaves, slots_of, slot_count}
use Rattle.kc_types.specs.ConfigFaults.{fault_of}
use Rattle.kc_types.proofs.Ranges.{few-frames, few-slots, few-leaves}
use Rattle.kc_types.specs.declared.config.ConfigFault.{ConfigFault}
use Rattle.kc_types.specs.declared.config.ConfigFault.TheVariants.{Frames, CoreHost, Leaves, TooManyDigests}
use Rattle.kc_types.specs.declared.version.Version.{Version}
use Rattle.kc_types.specs.declared.version.Version.TheVariants as version
use Rattle.kc_model.specs.Ranged.{IsWord}
use Rattle.kc_lines.specs.Words.{number_in, digest_in, at_end}
use Rattle.kc_lines.proofs.Numbers.{number_of-decimal, number_is_decimal}
use Rattle.std.proofs.lemmas.Fmt.{decimal_digit}
use Rattle.kc_lines.proofs.Digests.{digest_again, digest_is}
use Rattle.kc_lines.proofs.Words.{is_word, chosen, map_some, then_some, name_is, split_join, decimal_is_word, encoded_is_word}
use Rattle.kc_trace.specs.HeadReading.{◌>>=◌, take_name, take_word, take_number, take_pair, take_digest, words_in, first_of, later_of, position_of, redaction_in, last_in, position_in, alone, approved_in, version_numbered, begun_if, machine_of, machine_by, machine_in}

-- ---- a name and numbers

-- each number comes after a space
pub numbers_joined : (name : List ℕ) (numbers : List ℕ) → join_with_byte 32 (name ∷ map decimal numbers) ≡ name ++ flat_map (λ number. 32 ∷ decimal number) numbers
numbers_joined name [] = sym (append-nil name)
numbers_joined name (number ∷ numbers) = ap (λ rest. name ++ 32 ∷ rest) (numbers_joined (decimal number) numbers)

-- ---- lines

lines_append : (one two : List (List ℕ)) → ended_lines (one ++ two) ≡ ended_lines one ++ ended_lines two
lines_append one two = flat_map-append (λ (line : List ℕ). line ++ 10 ∷ []) one two

approved_ended : (digests : List (List ℕ)) → ended_lines (map approved_line digests) ≡ flat_map (λ digest. approved_line digest ++ 10 ∷ []) digests
approved_ended [] = refl
approved_ended (digest ∷ digests) = ap (λ rest. (approved_line digest ++ 10 ∷ []) ++ rest) (approved_ended digests)

-- the lines of a head, as they are written
pub head_ended : (head : Head) → ended_lines (head_lines head) ≡ (machine_line head.config (length head.config.approved) ++ 10 ∷ []) ++ (flat_map (λ digest. approved_line digest ++ 10 ∷ []) head.config.approved ++ (last_line head.position head.is_host_redacted ++ 10 ∷ []))
head_ended head =
    ap (λ rest. (machine_line head.config (length head.config.approved) ++ 10 ∷ []) ++ rest)
    (lines_append (map approved_line head.config.approved) (last_line head.position head.is_host_redacted ∷ [])
    ∙ ap (λ rest. rest ++ ended_lines (last_line head.position head.is_host_redacted ∷ [])) (approved_ended head.config.approved)
    ∙ ap (λ rest. flat_map (λ digest. approved_line digest ++ 10 ∷ []) head.config.approved ++ rest) (append-nil (last_line head.position head.is_host_redacted ++ 10 ∷ [])))

-- ---- digests

digest_is_data : (digest : List ℕ) → IsDigest digest → IsData digest
digest_is_data digest is = let long = is.long in record { nonempty = omega (arith, long); within = omega (arith, long); each_byte = is.each }

-- ---- words that are taken

name_taken : (name : List ℕ) (words rest : List (List ℕ)) → take_name name words ≡ Some rest → words ≡ name ∷ rest
name_taken name [] rest e = absurd cc
name_taken name (word ∷ words) rest e = elim (chosen (bytes_eq word name) (Some words) None (Some rest) e) [
  | inl h ↦ let same : words ≡ rest = cc in ap (λ w. w ∷ words) (name_is word name h.0) ∙ ap (λ ws. name ∷ ws) same
  | inr h ↦ absurd cc
]

word_taken : (words : List (List ℕ)) (taken : List ℕ × List (List ℕ)) → take_word words ≡ Some taken → words ≡ taken.0 ∷ taken.1
word_taken [] taken e = absurd cc
word_taken (word ∷ words) taken e = let same : (word, words) ≡ taken = cc in ap (λ (p : List ℕ × List (List ℕ)). p.0 ∷ p.1) same

number_taken : (words : List (List ℕ)) (taken : ℕ × List (List ℕ)) → take_number words ≡ Some taken → (words ≡ decimal taken.0 ∷ taken.1) × IsWord taken.0
number_taken [] taken e = absurd cc
number_taken (word ∷ words) taken e =
    let number = map_some (λ number. (number, words)) (number_in word) taken e in
    let spelled = number_is_decimal word number.0 number.1 in
    (subst (λ (p : ℕ × List (List ℕ)). word ∷ words ≡ decimal p.0 ∷ p.1) number.2 (ap (λ w. w ∷ words) spelled.0), subst (λ (p : ℕ × List (List ℕ)). IsWord p.0) number.2 spelled.1)

pair_taken : (words : List (List ℕ)) (taken : (ℕ × ℕ) × List (List ℕ)) → take_pair words ≡ Some taken → words ≡ decimal taken.0.0 ∷ decimal taken.0.1 ∷ taken.1
unfolding take_pair
pair_taken words taken e =
    let first = then_some _ (take_number words) taken e in
    let second = then_some _ (take_number first.0.1) taken first.2 in
    let same : ((first.0.0, second.0.0), second.0.1) ≡ taken = cc in
    (number_taken words first.0 first.1).0 ∙ ap (λ ws. decimal first.0.0 ∷ ws) (number_taken first.0.1 second.0 second.1).0 ∙ ap (λ (p : (ℕ × ℕ) × List (List ℕ)). decimal p.0.0 ∷ decimal p.0.1 ∷ p.1) same

digest_found : (word digest : List ℕ) → digest_in word ≡ Some digest → (word ≡ encode_lower digest) × IsDigest digest
digest_found word digest e = let is = digest_is word digest e in (is.spelled, record { long = is.long; each = is.each })

digest_taken : (words : List (List ℕ)) (taken : List ℕ × List (List ℕ)) → take_digest words ≡ Some taken → (words ≡ encode_lower taken.0 ∷ taken.1) × IsDigest taken.0
digest_taken [] taken e = absurd cc
digest_taken (word ∷ words) taken e =
    let digest = map_some (λ digest. (digest, words)) (digest_in word) taken e in
    let spelled = digest_found word digest.0 digest.1 in
    (subst (λ (p : List ℕ × List (List ℕ)). word ∷ words ≡ encode_lower p.0 ∷ p.1) digest.2 (ap (λ w. w ∷ words) spelled.0), subst (λ (p : List ℕ × List (List ℕ)). IsDigest p.0) digest.2 spelled.1)

none_left : (words : List (List ℕ)) (end : Unit {0}) → at_end words ≡ Some end → words ≡ []
none_left [] end e = refl
none_left (word ∷ words) end e = absurd cc

-- a line is its words
line_is : (line : List ℕ) (words : List (List ℕ)) → words_in line ≡ words → line ≡ join_with_byte 32 words
line_is line words e = sym (join_with_byte-slice_split 32 line) ∙ ap (join_with_byte 32) e

-- ---- the line of a position

first_is : (number : ℕ) (position : Position) → first_of number ≡ Some position → (number ≡ 1) × (position ≡ First)
first_is number position e = elim (chosen (number == 1) (Some First) None (Some position) e) [ inl h ↦ (eqb-true _ _ h.0, cc) | inr h ↦ absurd cc ]

later_is : (number : ℕ) (after : List ℕ) (position : Position) → later_of number after ≡ Some position → (2 ≤ number) × (position ≡ Later number after)
later_is number after position e = elim (chosen (nat_le 2 number) (Some (Later number after)) None (Some position) e) [ inl h ↦ (leb-true _ _ h.0, cc) | inr h ↦ absurd cc ]

position_is : (number : ℕ) (word : List ℕ) (position : Position) → IsWord number → position_of number word ≡ Some position → (decimal number ∷ word ∷ [] ≡ position_words position) × IsPosition position
position_is number word position fits e = elim (chosen (bytes_eq word (codes "-")) (first_of number) (option_and_then (later_of number) (digest_in word)) (Some position) e) [
  | inl h ↦
      let first = first_is number position h.1 in
      (ap (λ n. decimal n ∷ word ∷ []) first.0 ∙ ap (λ n. n ∷ word ∷ []) (decimal_digit 1 (omega arith)) ∙ ap (λ w. codes "1" ∷ w ∷ []) (name_is word (codes "-") h.0) ∙ ap position_words (sym first.1), rw first.1 tt)
  | inr h ↦
      let digest = then_some (later_of number) (digest_in word) position h.1 in
      let later = later_is number digest.0 position digest.2 in
      let spelled = digest_found word digest.0 digest.1 in
      (ap (λ w. decimal number ∷ w ∷ []) spelled.0 ∙ ap position_words (sym later.1), subst IsPosition (sym later.1) (later.0, fits, spelled.1))
]

redaction_taken : (words : List (List ℕ)) (flag : Bool) → redaction_in words ≡ Some flag → words ≡ redaction_words flag
redaction_taken [] flag e = let same : false ≡ flag = cc in ap redaction_words same
redaction_taken (word ∷ words) flag e = elim (chosen (bytes_eq word (codes "host-redacted")) (option_map (λ end. true) (at_end words)) None (Some flag) e) [
  | inl h ↦
      let end = map_some (λ end. true) (at_end words) flag h.1 in
      ap (λ w. w ∷ words) (name_is word (codes "host-redacted") h.0) ∙ ap (λ ws. codes "host-redacted" ∷ ws) (none_left words end.0 end.1) ∙ ap redaction_words end.2
  | inr h ↦ absurd cc
]

pub last_spelled : (line : List ℕ) (last : Position × Bool) → last_in (words_in line) ≡ Some last → (line ≡ last_line last.0 last.1) × IsPosition last.0
unfolding last_in last_line
last_spelled line last e =
    let name = then_some _ (take_name (codes "volume") (words_in line)) last e in
    let number = then_some _ (take_number name.0) last name.2 in
    let word = then_some _ (take_word number.0.1) last number.2 in
    let flag = then_some _ (redaction_in word.0.1) last word.2 in
    let position = map_some (λ position. (position, flag.0)) (position_of number.0.0 word.0.0) last flag.2 in
    let first = number_taken name.0 number.0 number.1 in
    let is = position_is number.0.0 word.0.0 position.0 first.1 position.1 in
    let words : words_in line ≡ codes "volume" ∷ (position_words position.0 ++ redaction_words flag.0) =
    name_taken (codes "volume") (words_in line) name.0 name.1
    ∙ ap (λ ws. codes "volume" ∷ ws) (first.0
    ∙ ap (λ ws. decimal number.0.0 ∷ ws) (word_taken number.0.1 word.0 word.1 ∙ ap (λ ws. word.0.0 ∷ ws) (redaction_taken word.0.1 flag.0 flag.1))
    ∙ ap (λ ws. ws ++ redaction_words flag.0) is.0) in
    subst (λ (l : Position × Bool). (line ≡ last_line l.0 l.1) × IsPosition l.0) position.2
    (line_is line (codes "volume" ∷ (position_words position.0 ++ redaction_words flag.0)) words, is.1)

pub last_words_are : (position : Position) (flag : Bool) → IsPosition position → list_all is_word (codes "volume" ∷ (position_words position ++ redaction_words flag)) ≡ true
last_words_are First false is = refl
last_words_are First true is = refl
last_words_are (Later number after) false is = rw (decimal_is_word number is.1, encoded_is_word after (digest_is_data after is.2)) refl
last_words_are (Later number after) true is = rw (decimal_is_word number is.1, encoded_is_word after (digest_is_data after is.2)) refl

-- digits are not a dash
no_dash : (digest : List ℕ) → IsDigest digest → bytes_eq (encode_lower digest) (codes "-") ≡ false
no_dash digest is = false_from_ne_true (bytes_eq (encode_lower digest) (codes "-")) (λ e.
    let same = name_is (encode_lower digest) (codes "-") e in
    let long = is.long in
    absurd (omega (arith, ap length same, length-encode_with lower_digits digest, long)))

redaction_again : (flag : Bool) → redaction_in (redaction_words flag) ≡ Some flag
redaction_again false = refl
redaction_again true = refl

last_words_again : (position : Position) (flag : Bool) → IsPosition position → last_in (codes "volume" ∷ (position_words position ++ redaction_words flag)) ≡ Some (position, flag)
unfolding last_in
last_words_again First flag is = let one : number_in (codes "1") ≡ Some 1 = ap number_in (sym (decimal_digit 1 (omega arith))) ∙ number_of-decimal 1 (omega arith) in rw (one, redaction_again flag) refl
last_words_again (Later number after) flag is = rw (number_of-decimal number is.1, redaction_again flag, no_dash after is.2, digest_again after is.2.long is.2.each, le-leb 2 number is.0) refl

pub last_again : (position : Position) (flag : Bool) → IsPosition position → last_in (words_in (last_line position flag)) ≡ Some (position, flag)
unfolding last_line
last_again position flag is =
    ap last_in (split_join (codes "volume") (position_words position ++ redaction_words flag) (last_words_are position flag is)) ∙ last_words_again position flag is

pub position_spelled : (line : List ℕ) (position : Position) → position_in (words_in line) ≡ Some position → (line ≡ position_line position) × IsPosition position
position_spelled line position e =
    let found = then_some alone (last_in (words_in line)) position e in
    by_flag found.0 found.1 found.2
  where
    by_flag : (last : Position × Bool) → last_in (words_in line) ≡ Some last → alone last ≡ Some position → (line ≡ position_line position) × IsPosition position
    by_flag (p, false) read is = let same : p ≡ position = cc in let spelled = last_spelled line (p, false) read in rw same at spelled
    by_flag (p, true) read is = absurd cc

pub position_again : (position : Position) → IsPosition position → position_in (words_in (position_line position)) ≡ Some position
position_again position is = ap (λ found. found >>= alone) (last_again position false is)

-- ---- a last line as it is written

pub position_joined : (position : Position) → position_line position ≡ join_with_byte 32 (codes "volume" ∷ position_words position)
unfolding last_line
position_joined position = ap (λ words. join_with_byte 32 (codes "volume" ∷ words)) (append-nil (position_words position))

pub last_joined : (position : Position) (flag : Bool) → last_line position flag ≡ join_with_byte 32 (codes "volume" ∷ position_words position) ++ flat_map (λ word. 32 ∷ word) (redaction_words flag)
unfolding last_line
last_joined position false = position_joined position ∙ sym (append-nil (join_with_byte 32 (codes "volume" ∷ position_words position)))
last_joined First true = refl
last_joined (Later number after) true = ap (λ rest. codes "volume" ++ 32 ∷ rest) (sym (append_assoc (decimal number) (32 ∷ encode_lower after) (codes " host-redacted")))

-- ---- the line of an approved digest

pub approved_spelled : (line digest : List ℕ) → approved_in (words_in line) ≡ Some digest → (line ≡ approved_line digest) × IsDigest digest
unfolding approved_in approved_line
approved_spelled line digest e =
    let name = then_some _ (take_name (codes "approved") (words_in line)) digest e in
    let taken = then_some _ (take_digest name.0) digest name.2 in
    let end = then_some _ (at_end taken.0.1) digest taken.2 in
    let is = digest_taken name.0 taken.0 taken.1 in
    let same : taken.0.0 ≡ digest = cc in
    let words : words_in line ≡ codes "approved" ∷ encode_lower taken.0.0 ∷ [] =
    name_taken (codes "approved") (words_in line) name.0 name.1 ∙ ap (λ ws. codes "approved" ∷ ws) (is.0 ∙ ap (λ ws. encode_lower taken.0.0 ∷ ws) (none_left taken.0.1 end.0 end.1)) in
    (subst (λ (d : List ℕ). line ≡ join_with_byte 32 (codes "approved" ∷ encode_lower d ∷ [])) same (line_is line (codes "approved" ∷ encode_lower taken.0.0 ∷ []) words), subst IsDigest same is.1)

pub approved_words_are : (digest : List ℕ) → IsDigest digest → list_all is_word (codes "approved" ∷ encode_lower digest ∷ []) ≡ true
approved_words_are digest is = rw (encoded_is_word digest (digest_is_data digest is)) refl

approved_words_again : (digest : List ℕ) → IsDigest digest → approved_in (codes "approved" ∷ encode_lower digest ∷ []) ≡ Some digest
unfolding approved_in
approved_words_again digest is = rw (digest_again digest is.long is.each) refl

pub approved_again : (digest : List ℕ) → IsDigest digest → approved_in (words_in (approved_line digest)) ≡ Some digest
unfolding approved_line
approved_again digest is =
    ap approved_in (split_join (codes "approved") (encode_lower digest ∷ []) (approved_words_are digest is)) ∙ approved_words_again digest is

-- ---- the line of a machine

none_if : {A : Type 0} (b : Bool) (x : A) (rest : Option A) → cond b (Some x) rest ≡ None → (b ≡ false) × (rest ≡ None)
none_if true x rest e = absurd cc
none_if false x rest e = (refl, e)

configuration_is : (c : Configuration) → fault_of c ≡ None → IsConfiguration c
configuration_is c e =
    let frames = none_if (c.frames == 0 || nat_lt (most_frames c.version) c.frames) Frames _ e in
    let sums = none_if (nat_lt c.frames (c.core + c.host)) CoreHost _ frames.1 in
    let leaves = none_if (c.leaves == 0 || nat_lt (most_leaves c.version) c.leaves) Leaves _ sums.1 in
    let digests = none_if (nat_lt digest_limit (length c.approved)) TooManyDigests _ leaves.1 in
    let frame = or_parts (c.frames == 0) (nat_lt (most_frames c.version) c.frames) frames.0 in
    let leaf = or_parts (c.leaves == 0) (nat_lt (most_leaves c.version) c.leaves) leaves.0 in
    let some : c.frames ≢ 0 = eqb-false _ _ frame.0 in
    let one : c.leaves ≢ 0 = eqb-false _ _ leaf.0 in
    record {
      some_frames = omega (arith, some);
      few_frames = ltb-false _ _ frame.1;
      within = ltb-false _ _ sums.0;
      some_leaves = omega (arith, one);
      few_leaves = ltb-false _ _ leaf.1;
      few_digests = ltb-false _ _ digests.0;
    }

no_fault : (c : Configuration) → IsConfiguration c → fault_of c ≡ None
no_fault c is =
    let some = is.some_frames in
    let one = is.some_leaves in
    rw (
      ne_eqb c.frames 0 (λ z. absurd (omega (arith, some, z))),
      le-ltb (most_frames c.version) c.frames is.few_frames,
      le-ltb c.frames (c.core + c.host) is.within,
      ne_eqb c.leaves 0 (λ z. absurd (omega (arith, one, z))),
      le-ltb (most_leaves c.version) c.leaves is.few_leaves,
      le-ltb digest_limit (length c.approved) is.few_digests,
    ) refl

-- a machine that was begun keeps the limits of configurations, and has as many digests as it approves, or fewer
pub record IsBegun (begun : Begun) : Type 0 where
  pub config : IsConfiguration begun.config
  pub few : begun.awaited ≤ digest_limit
  pub within : length begun.config.approved ≤ begun.awaited
  pub digests : AllByRecursion IsDigest begun.config.approved

numbered : (number : ℕ) (v : Version) → version_numbered number ≡ Some v → number ≡ version_number v
numbered number v e = elim (chosen (number == 1) (Some version.One) _ (Some v) e) [
  | inl h ↦ let same : version.One ≡ v = cc in eqb-true _ _ h.0 ∙ ap version_number same
  | inr h ↦ elim (chosen (number == 2) (Some version.Two) _ (Some v) h.1) [
    | inl g ↦ let same : version.Two ≡ v = cc in eqb-true _ _ g.0 ∙ ap version_number same
    | inr g ↦ elim (chosen (number == 3) (Some version.Three) None (Some v) g.1) [
      | inl i ↦ let same : version.Three ≡ v = cc in eqb-true _ _ i.0 ∙ ap version_number same
      | inr i ↦ absurd cc
    ]
  ]
]

numbered_again : (v : Version) → version_numbered (version_number v) ≡ Some v
numbered_again version.One = refl
numbered_again version.Two = refl
numbered_again version.Three = refl

begun_is : (config : Configuration) (awaited : ℕ) (begun : Begun) → begun_if config awaited ≡ Some begun → (begun ≡ record { config = config; awaited = awaited }) × IsConfiguration config
begun_is config awaited begun e = by_fault (fault_of config) refl e
  where
    by_fault : (fault : Option ConfigFault) → fault_of config ≡ fault → cond (is_none fault) (Some (record { config = config; awaited = awaited })) None ≡ Some begun
        → (begun ≡ record { config = config; awaited = awaited }) × IsConfiguration config
    by_fault None none e = (cc, configuration_is config none)
    by_fault (Some fault) some e = absurd cc

-- what the words of a machine's line are of
record IsMachineLine (words : List (List ℕ)) (begun : Begun) : Type 0 where
  spelled : words ≡ codes "config" ∷ map decimal (machine_numbers begun.config begun.awaited)
  empty : begun.config.approved ≡ []
  config : IsConfiguration begun.config
  few : begun.awaited ≤ digest_limit

-- numbers that a line has in this order
abbrev in_order : ℕ × ℕ → ℕ × ℕ → ℕ × ℕ → ℕ → List ℕ
in_order rules frames others awaited = rules.0 ∷ rules.1 ∷ frames.0 ∷ frames.1 ∷ others.0 ∷ others.1 ∷ awaited ∷ []

numbers_are : (words : List (List ℕ)) (begun : Begun) → machine_in words ≡ Some begun
    → (rules : ℕ × ℕ) × (frames : ℕ × ℕ) × (others : ℕ × ℕ) × (awaited : ℕ) × (words ≡ codes "config" ∷ map decimal (in_order rules frames others awaited)) × (machine_by rules frames others awaited ≡ Some begun)
unfolding machine_in
numbers_are words begun e =
    let name = then_some _ (take_name (codes "config") words) begun e in
    let rules = then_some _ (take_pair name.0) begun name.2 in
    let frames = then_some _ (take_pair rules.0.1) begun rules.2 in
    let others = then_some _ (take_pair frames.0.1) begun frames.2 in
    let awaited = then_some _ (take_number others.0.1) begun others.2 in
    let end = then_some _ (at_end awaited.0.1) begun awaited.2 in (
      rules.0.0,
      frames.0.0,
      others.0.0,
      awaited.0.0,
      name_taken (codes "config") words name.0 name.1
          ∙ ap (λ ws. codes "config" ∷ ws)
          (pair_taken name.0 rules.0 rules.1
          ∙ ap (λ ws. decimal rules.0.0.0 ∷ decimal rules.0.0.1 ∷ ws) (pair_taken rules.0.1 frames.0 frames.1
          ∙ ap (λ ws. decimal frames.0.0.0 ∷ decimal frames.0.0.1 ∷ ws) (pair_taken frames.0.1 others.0 others.1
          ∙ ap (λ ws. decimal others.0.0.0 ∷ decimal others.0.0.1 ∷ ws) ((number_taken others.0.1 awaited.0 awaited.1).0
          ∙ ap (λ ws. decimal awaited.0.0 ∷ ws) (none_left awaited.0.1 end.0 end.1))))),
      end.2,
    )

machine_is : (rules frames others : ℕ × ℕ) (awaited : ℕ) (begun : Begun) → machine_by rules frames others awaited ≡ Some begun → IsMachineLine (codes "config" ∷ map decimal (in_order rules frames others awaited)) begun
unfolding slot_count
machine_is rules frames others awaited begun e =
    let v = then_some (λ v. machine_of v rules.1 frames.0 frames.1 others.0 others.1 awaited) (version_numbered rules.0) begun e in
    let config : Configuration = record { version = v.0; frames = frames.0; core = frames.1; host = others.0; leaves = others.1; approved = [] } in
    elim (chosen (rules.1 == slots_of v.0 && nat_le awaited digest_limit) (begun_if config awaited) None (Some begun) v.2) [
      | inl h ↦
          let tests = and_parts (rules.1 == slots_of v.0) (nat_le awaited digest_limit) h.0 in
          let is = begun_is config awaited begun h.1 in
          let whole : codes "config" ∷ map decimal (in_order rules frames others awaited) ≡ codes "config" ∷ map decimal (machine_numbers config awaited) =
          ap (λ (n : ℕ). codes "config" ∷ map decimal (in_order (n, rules.1) frames others awaited)) (numbered rules.0 v.0 v.1)
          ∙ ap (λ (n : ℕ). codes "config" ∷ map decimal (in_order (version_number v.0, n) frames others awaited)) (eqb-true _ _ tests.0) in
          subst (IsMachineLine (codes "config" ∷ map decimal (in_order rules frames others awaited))) (sym is.0) (record { spelled = whole; empty = refl; config = is.1; few = leb-true _ _ tests.1 })
      | inr h ↦ absurd cc
    ]

machine_words_are : (words : List (List ℕ)) (begun : Begun) → machine_in words ≡ Some begun → IsMachineLine words begun
machine_words_are words begun e =
    let numbers = numbers_are words begun e in
    subst (λ (ws : List (List ℕ)). IsMachineLine ws begun) (sym numbers.4) (machine_is numbers.0 numbers.1 numbers.2 numbers.3 begun numbers.5)

pub machine_spelled : (line : List ℕ) (begun : Begun) → machine_in (words_in line) ≡ Some begun → (line ≡ machine_line begun.config begun.awaited) × (begun.config.approved ≡ []) × IsBegun begun
unfolding machine_line
machine_spelled line begun e =
    let is = machine_words_are (words_in line) begun e in (
      line_is line (codes "config" ∷ map decimal (machine_numbers begun.config begun.awaited)) is.spelled,
      is.empty,
      record {
        config = is.config;
        few = is.few;
        within = rw is.empty (omega arith);
        digests = rw is.empty tt;
      },
    )

numbers_are_words : (numbers : List ℕ) → AllByRecursion IsWord numbers → list_all is_word (map decimal numbers) ≡ true
numbers_are_words [] each = refl
numbers_are_words (number ∷ numbers) each = rw (decimal_is_word number each.0) (numbers_are_words numbers each.1)

few_versions : (v : Version) → version_number v ≤ 3
few_versions version.One = omega arith
few_versions version.Two = omega arith
few_versions version.Three = omega arith

pub numbers_fit : (config : Configuration) (awaited : ℕ) → IsConfiguration config → awaited ≤ digest_limit → AllByRecursion IsWord (machine_numbers config awaited)
unfolding slot_count
numbers_fit config awaited is few =
    let frames = few-frames config.version config.frames is.few_frames in
    let sums = is.within in
    let leaves = is.few_leaves in
    let most = few-leaves config.version in
    (omega (arith, few_versions config.version), (omega (arith, few-slots config.version), (omega (arith, frames), (omega (arith, sums, frames), (omega (arith, sums, frames), (omega (arith, leaves, most), (omega (arith, few), tt)))))))

-- the machine without approved digests
abbrev pub emptied : Configuration → Configuration
emptied config = record config { approved = [] }

emptied_is : (config : Configuration) → IsConfiguration config → IsConfiguration (emptied config)
emptied_is config is = record {
  some_frames = is.some_frames;
  few_frames = is.few_frames;
  within = is.within;
  some_leaves = is.some_leaves;
  few_leaves = is.few_leaves;
  few_digests = omega arith;
}

machine_by_again : (config : Configuration) (awaited : ℕ) → IsConfiguration config → awaited ≤ digest_limit
    → machine_by (version_number config.version, slot_count config) (config.frames, config.core) (config.host, config.leaves) awaited ≡ Some (record { config = emptied config; awaited = awaited })
unfolding slot_count
machine_by_again config awaited is few =
    rw (numbered_again config.version, eq-eqb (slots_of config.version) (slots_of config.version) refl, le-leb awaited digest_limit few, no_fault (emptied config) (emptied_is config is)) refl

machine_words_again : (config : Configuration) (awaited : ℕ) → IsConfiguration config → awaited ≤ digest_limit
    → machine_in (codes "config" ∷ map decimal (machine_numbers config awaited)) ≡ Some (record { config = emptied config; awaited = awaited })
unfolding machine_in take_pair
machine_words_again config awaited is few =
    let fits = numbers_fit config awaited is few in
    rw (
      number_of-decimal (version_number config.version) fits.0,
      number_of-decimal (slot_count config) fits.1.0,
      number_of-decimal config.frames fits.1.1.0,
      number_of-decimal config.core fits.1.1.1.0,
      number_of-decimal config.host fits.1.1.1.1.0,
      number_of-decimal config.leaves fits.1.1.1.1.1.0,
      number_of-decimal awaited fits.1.1.1.1.1.1.0,
    ) (machine_by_again config awaited is few)

pub machine_line_words : (config : Configuration) (awaited : ℕ) → IsConfiguration config → awaited ≤ digest_limit → list_all is_word (codes "config" ∷ map decimal (machine_numbers config awaited)) ≡ true
machine_line_words config awaited is few = numbers_are_words (machine_numbers config awaited) (numbers_fit config awaited is few)

pub machine_again : (config : Configuration) (awaited : ℕ) → IsConfiguration config → awaited ≤ digest_limit → machine_in (words_in (machine_line config awaited)) ≡ Some (record { config = emptied config; awaited = awaited })
unfolding machine_line
machine_again config awaited is few =
    ap machine_in (split_join (codes "config") (map decimal (machine_numbers config awaited)) (machine_line_words config awaited is few)) ∙ machine_words_again config awaited is few
