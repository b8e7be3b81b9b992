-- A word is read as what it spells, and nothing else is.
use Rattle.std.proofs.Common.{ℕ, ◌≡◌, ◌<◌, ◌≤◌, ◌^◌, Bool, true, false, List, length, All, Option, Some, None, refl, ap, ◌∙◌, arith, inl, inr}
use Rattle.std.specs.Prelude.{◌==◌, nat_lt, codes, option_map}
use Rattle.std.specs.Str.{bytes_eq}
use Rattle.std.specs.Fmt.{decimal}
use Rattle.std.specs.List.{list_all}
use Rattle.std.proofs.lemmas.Bool.{lt-ltb, ltb-true, eq-eqb, cases_Bool}
use Rattle.hex.specs.Hex.{encode_lower, lower_digits}
use Rattle.hex.proofs.HexLemmas.{length-encode_with}
use Rattle.kc_types.specs.Limits.{slot_limit}
use Rattle.kc_types.specs.Configuration.{slots_of}
use Rattle.kc_types.specs.declared.version.Version.{Version}
use Rattle.kc_types.specs.declared.owner.Owner.{Owner}
use Rattle.kc_types.specs.declared.owner.Owner.TheVariants.{Core, Host, Free, Vm}
use Rattle.kc_types.specs.declared.slot.Phase.{Phase}
use Rattle.kc_types.specs.declared.slot.Phase.TheVariants.{Empty, Booting, Active, Dead}
use Rattle.kc_lines.specs.Words.{number_in, digest_in}
use Rattle.kc_lines.proofs.Numbers.{number_of-decimal, number_is_decimal}
use Rattle.kc_lines.proofs.Digests.{digest_again, digest_is}
use Rattle.kc_lines.proofs.Words.{is_word, map_some, then_some, chosen, name_is, decimal_is_word, encoded_is_word}
use Rattle.kc_dump.specs.Ranges.{is_below, is_owner}
use Rattle.kc_dump_text.specs.DumpText.{or_dash, bit, phase_word, owner_word}
use Rattle.kc_dump_text.specs.Words.{under, below_of, choose, nothing, or_dash_of, bit_of, phase_of, owner_of}
use Rattle.kc_types.proofs.Ranges.{few-slots}

-- ---- readers of a word, and of words

-- it passes a test, and is read as x
pub record Reads {W X : Type 0} (test : W → Bool) (read : W → Option X) (word : W) (x : X) : Type 0 where
  pub passes : test word ≡ true
  pub found : read word ≡ Some x

-- what is read, after what was read before, is what is spelled
pub record From {W X : Type 0} (spelled : X → W) (before : W → W) (read : W → Option X) : Type 0 where
  pub same : (word : W) (x : X) → read word ≡ Some x → before word ≡ spelled x

pub mapped-to : {W X Y : Type 0} {test : W → Bool} {read : W → Option X} {word : W} {x : X} (f : X → Y) → Reads test read word x → Reads test (λ w. option_map f (read w)) word (f x)
mapped-to f h = record { passes = h.passes; found = ap (option_map f) h.found }

pub mapped-from : {W X Y : Type 0} {part : X → W} {spelled : Y → W} {before : W → W} {read : W → Option X} (f : X → Y) → ((x : X) → before (part x) ≡ spelled (f x)) → From part (λ w. w) read → From spelled before (λ w. option_map f (read w))
mapped-from {W} {X} {Y} {part} {spelled} {before} {read} f is from = record { same = λ word y e. let r = map_some f (read word) y e in ap before (from.same word r.0 r.1) ∙ is r.0 ∙ ap spelled r.2 }

pub nothing-from : {W X : Type 0} {spelled : X → W} {before : W → W} → From spelled before nothing
nothing-from = record { same = λ word x e. absurd cc }

-- what the rest reads is not the name, if the rest does not read the name
choose-to : {X : Type 0} {rest : List ℕ → Option X} {word : List ℕ} {x : X} (name : List ℕ) (made : X) → rest name ≡ None → Reads is_word rest word x → Reads is_word (choose name made rest) word x
choose-to {X} {rest} {word} {x} name made none h =
    elim (cases_Bool (bytes_eq word name)) [ inl is ↦ let same = name_is word name is in let found : rest name ≡ Some x = rw same at h.found in absurd cc | inr other ↦ record { passes = h.passes; found = rw other h.found } ]

choose-from : {X : Type 0} {name : List ℕ} {rest : List ℕ → Option X} {spelled : X → List ℕ} (made : X) → name ≡ spelled made → From spelled (λ w. w) rest → From spelled (λ w. w) (choose name made rest)
choose-from {X} {name} {rest} {spelled} made is from = record { same = λ word x e. elim (chosen (bytes_eq word name) (Some made) (rest word) (Some x) e) [ inl h ↦ let same : made ≡ x = cc in name_is word name h.0 ∙ is ∙ ap spelled same | inr h ↦ from.same word x h.1 ] }

-- ---- numbers

pub number-to : (n : ℕ) → n < 2 ^ 32 → Reads is_word number_in (decimal n) n
number-to n lt = record { passes = decimal_is_word n lt; found = number_of-decimal n lt }

pub number-from : (word : List ℕ) (n : ℕ) → number_in word ≡ Some n → word ≡ decimal n
number-from word n e = (number_is_decimal word n e).0

pub number-spelled : From decimal (λ w. w) number_in
number-spelled = record { same = number-from }

pub under-to : (limit n : ℕ) → n < limit → under limit n ≡ Some n
under-to limit n lt = rw (lt-ltb n limit lt) refl

pub under-from : (limit n m : ℕ) → under limit n ≡ Some m → n ≡ m
under-from limit n m e = elim (chosen (nat_lt n limit) (Some n) None (Some m) e) [ inl h ↦ cc | inr h ↦ absurd cc ]

pub below-to : (limit n : ℕ) → limit ≤ 2 ^ 32 → n < limit → Reads is_word (below_of limit) (decimal n) n
below-to limit n le lt = let h = number-to n (omega (arith, lt, le)) in record { passes = h.passes; found = rw h.found (under-to limit n lt) }

pub below-from : (limit : ℕ) → From decimal (λ w. w) (below_of limit)
below-from limit = record { same = λ word n e. let r = then_some (under limit) (number_in word) n e in number-from word r.0 r.1 ∙ ap decimal (under-from limit r.0 n r.2) }

pub dash-to : (limit f : ℕ) (o : Option ℕ) → limit ≤ 2 ^ 32 → f ≤ limit → is_below f o ≡ true → Reads is_word (or_dash_of limit) (or_dash o) o
unfolding number_in
dash-to limit f None le few is = record { passes = refl; found = refl }
dash-to limit f (Some n) le few is = choose-to (codes "-") None refl (mapped-to (λ n. Some n) (below-to limit n le (omega (arith, ltb-true n f is, few))))

pub dash-from : (limit : ℕ) → From or_dash (λ w. w) (or_dash_of limit)
dash-from limit = choose-from None refl (mapped-from (λ n. Some n) (λ n. refl) (below-from limit))

-- ---- names

pub bit-to : (b : Bool) → Reads is_word bit_of (bit b) b
bit-to = elim [ true ↦ record { passes = refl; found = refl } | false ↦ record { passes = refl; found = refl } ]

pub bit-from : From bit (λ w. w) bit_of
bit-from = choose-from true refl (choose-from false refl nothing-from)

pub phase-to : (p : Phase) → Reads is_word phase_of (phase_word p) p
phase-to = elim [ Empty ↦ record { passes = refl; found = refl } | Booting ↦ record { passes = refl; found = refl } | Active ↦ record { passes = refl; found = refl } | Dead ↦ record { passes = refl; found = refl } ]

pub phase-from : From phase_word (λ w. w) phase_of
phase-from = choose-from Empty refl (choose-from Booting refl (choose-from Active refl (choose-from Dead refl nothing-from)))

pub owner-to : (version : Version) (o : Owner) → is_owner version o ≡ true → Reads is_word owner_of (owner_word o) o
unfolding number_in
owner-to version Core is = record { passes = refl; found = refl }
owner-to version Host is = record { passes = refl; found = refl }
owner-to version Free is = record { passes = refl; found = refl }
owner-to version (Vm v) is =
    let low : v < slot_limit = omega (arith, ltb-true v (slots_of version) is, few-slots version) in
    choose-to (codes "core") Core refl (choose-to (codes "host") Host refl (choose-to (codes "free") Free refl (mapped-to Vm (below-to slot_limit v (omega arith) low))))

pub owner-from : From owner_word (λ w. w) owner_of
owner-from = choose-from Core refl (choose-from Host refl (choose-from Free refl (mapped-from Vm (λ v. refl) (below-from slot_limit))))

-- ---- digests

pub record DigestFits (bytes : List ℕ) : Type 0 where
  pub long : length bytes ≡ 32
  pub each : All (λ b. b < 256) bytes

pub digest-reads : (bytes : List ℕ) → DigestFits bytes → Reads is_word digest_in (encode_lower bytes) bytes
digest-reads bytes fits = record { passes = encoded_is_word bytes (record { nonempty = omega (arith, fits.long); within = omega (arith, fits.long); each_byte = fits.each }); found = digest_again bytes fits.long fits.each }

pub digest-from : (word bytes : List ℕ) → digest_in word ≡ Some bytes → word ≡ encode_lower bytes
digest-from word bytes e = (digest_is word bytes e).spelled
