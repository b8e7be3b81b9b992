-- Words that are taken one after another.
use Rattle.std.proofs.Common.{ℕ, ◌≡◌, ◌<◌, ◌^◌, inl, inr, List, [], ◌∷◌, length, Option, Some, None, sym, ap, ◌∙◌, arith}
use Rattle.std.specs.Prelude.{◌==◌, MatchOption}
use Rattle.std.proofs.lemmas.Bool.{eqb-true}
use Rattle.hex.specs.Hex.{lower_digits}
use Rattle.hex.proofs.HexLemmas.{length-encode_with}
use Rattle.std.specs.Fmt.{decimal}
use Rattle.hex.specs.Hex.{encode_lower}
use Rattle.kc_types.specs.Limits.{second_frame_limit, second_slot_limit, digest_limit}
use Rattle.kc_model.specs.State.{Vcpu}
use Rattle.kc_lines.specs.Words.{number_in, digest_in}
use Rattle.kc_lines.proofs.Words.{chosen}
use Rattle.kc_lines.proofs.Numbers.{number_of-decimal, number_is_decimal}
use Rattle.kc_lines.proofs.Digests.{digest_is}
use Rattle.kc_model.specs.Volumes.{IsDigest}
use Rattle.kc_state_text.specs.declared.sizes.Sizes.{Sizes}
use Rattle.kc_state_text.specs.Words.{vcpu_in}
use Rattle.kc_state_text.specs.StateText.{sizes_words, approved_words, vcpu_word, vcpu_words}
use Rattle.kc_state_text.specs.Refused.{AreSizes, IsVcpuWord}
use Rattle.kc_state_text.specs.Reading.{IsNumber, IsAtMost, number_words, after_name, LacksFirst, LacksWhole, BeginsAs, IsWhole}
use Rattle.kc_state_text.proofs.Spelled.{decimal-same, vcpu-to, vcpu-from, approved-to, rest-same}
use Rattle.kc_state_text.proofs.Placed.{none-some}

first-same : {X : Type 0} (x y : X) (xs ys : List X) → x ∷ xs ≡ y ∷ ys → x ≡ y
first-same x y xs ys e = cc

-- a number
pub number-read : (found : Option ℕ) (words : List (List ℕ)) (word : List ℕ) (rest : List (List ℕ)) → words ≡ word ∷ rest → found ≡ number_in word
    → MatchOption found (LacksFirst IsNumber number_words words) (λ n. words ≡ decimal n ∷ rest)
number-read None words word rest e f = λ n more is g.
    none-some n (f ∙ ap number_in (first-same word (decimal n) rest more (sym e ∙ g)) ∙ number_of-decimal n is)
number-read (Some n) words word rest e f = e ∙ ap (λ (w : List ℕ). w ∷ rest) (number_is_decimal word n (sym f)).0

-- a number above the most
pub number-past : (most a : ℕ) → most < a → a < 2 ^ 32 → (words rest : List (List ℕ)) → words ≡ decimal a ∷ rest → LacksFirst (IsAtMost most) number_words words
number-past most a past low words rest e n more is g =
    let same = decimal-same a n low (omega (arith, past, low, is)) (first-same (decimal a) (decimal n) rest more (sym e ∙ g)) in omega (arith, past, is, same)

-- a virtual processor
pub vcpu-read : (found : Option Vcpu) (words : List (List ℕ)) (word : List ℕ) (rest : List (List ℕ)) → words ≡ word ∷ rest → found ≡ vcpu_in word
    → MatchOption found (LacksFirst IsVcpuWord vcpu_words words) (λ vcpu. BeginsAs IsVcpuWord vcpu_words words vcpu rest)
vcpu-read None words word rest e f = λ vcpu more is g.
    none-some vcpu (f ∙ ap vcpu_in (first-same word (vcpu_word vcpu) rest more (sym e ∙ g)) ∙ vcpu-to vcpu is)
vcpu-read (Some vcpu) words word rest e f = let from = vcpu-from word vcpu (sym f) in record { is = from.0; whole = e ∙ ap (λ (w : List ℕ). w ∷ rest) from.1 }

is-digest : (word digest : List ℕ) → digest_in word ≡ Some digest → IsDigest digest
is-digest word digest e = let is = digest_is word digest e in record { long = is.long; each = is.each }

-- ---- the sizes

module _ (name : List ℕ) (words : List (List ℕ)) where
  sizes-after : (first : List (List ℕ)) (s : Sizes) → words ≡ name ∷ first → words ≡ after_name name sizes_words s → first ≡ sizes_words s
  sizes-after first s e g = rest-same name name first (sizes_words s) (sym e ∙ g)

  pub no-slots : (first : List (List ℕ)) → words ≡ name ∷ first → LacksFirst (IsAtMost second_slot_limit) number_words first → LacksWhole AreSizes (after_name name sizes_words) words
  no-slots first e lacks s is g = lacks s.slots (decimal s.frames ∷ decimal s.host ∷ decimal s.approved ∷ []) is.slots (sizes-after first s e g)

  pub no-frames : (a : ℕ) (first second : List (List ℕ)) → words ≡ name ∷ first → first ≡ decimal a ∷ second → LacksFirst (IsAtMost second_frame_limit) number_words second → LacksWhole AreSizes (after_name name sizes_words) words
  no-frames a first second e f lacks s is g = lacks s.frames (decimal s.host ∷ decimal s.approved ∷ []) is.frames (rest-same (decimal a) (decimal s.slots) second _ (sym f ∙ sizes-after first s e g))

  pub no-host : (a b : ℕ) (first second third : List (List ℕ)) → words ≡ name ∷ first → first ≡ decimal a ∷ second → second ≡ decimal b ∷ third → LacksFirst (IsAtMost second_frame_limit) number_words third
      → LacksWhole AreSizes (after_name name sizes_words) words
  no-host a b first second third e f h lacks s is g =
      lacks s.host (decimal s.approved ∷ []) is.host
      (rest-same (decimal b) (decimal s.frames) third _ (sym h ∙ rest-same (decimal a) (decimal s.slots) second _ (sym f ∙ sizes-after first s e g)))

  pub no-approved : (a b c : ℕ) (first second third fourth : List (List ℕ)) → words ≡ name ∷ first → first ≡ decimal a ∷ second → second ≡ decimal b ∷ third → third ≡ decimal c ∷ fourth
      → LacksFirst (IsAtMost digest_limit) number_words fourth → LacksWhole AreSizes (after_name name sizes_words) words
  no-approved a b c first second third fourth e f h k lacks s is g =
      lacks s.approved [] is.approved
      (rest-same (decimal c) (decimal s.host) fourth _ (sym k ∙ rest-same (decimal b) (decimal s.frames) third _ (sym h ∙ rest-same (decimal a) (decimal s.slots) second _ (sym f ∙ sizes-after first s e g))))

  pub no-end : (a b c d : ℕ) (first second third fourth fifth : List (List ℕ)) → words ≡ name ∷ first → first ≡ decimal a ∷ second → second ≡ decimal b ∷ third → third ≡ decimal c ∷ fourth → fourth ≡ decimal d ∷ fifth
      → (fifth ≡ [] → ⊥) → LacksWhole AreSizes (after_name name sizes_words) words
  no-end a b c d first second third fourth fifth e f h k m more s is g =
      more (rest-same (decimal d) (decimal s.approved) fifth [] (sym m
      ∙ rest-same (decimal c) (decimal s.host) fourth _ (sym k ∙ rest-same (decimal b) (decimal s.frames) third _ (sym h ∙ rest-same (decimal a) (decimal s.slots) second _ (sym f ∙ sizes-after first s e g)))))

  pub sizes-read : (s : Sizes) (first second third fourth fifth : List (List ℕ)) → AreSizes s → words ≡ name ∷ first → first ≡ decimal s.slots ∷ second → second ≡ decimal s.frames ∷ third → third ≡ decimal s.host ∷ fourth → fourth ≡ decimal s.approved ∷ fifth
      → fifth ≡ [] → IsWhole AreSizes (after_name name sizes_words) words s
  sizes-read s first second third fourth fifth is e f h k m n = record {
    is = is;
    whole = e ∙ ap (λ (ws : List (List ℕ)). name ∷ ws) (f ∙ ap (λ (ws : List (List ℕ)). decimal s.slots ∷ ws) (h ∙ ap (λ (ws : List (List ℕ)). decimal s.frames ∷ ws) (k
        ∙ ap (λ (ws : List (List ℕ)). decimal s.host ∷ ws) (m ∙ ap (λ (ws : List (List ℕ)). decimal s.approved ∷ ws) n))));
  }

  -- ---- an approved digest

  pub no-digest-word : (word : List ℕ) (first rest : List (List ℕ)) → words ≡ name ∷ first → first ≡ word ∷ rest → digest_in word ≡ None → LacksWhole IsDigest (after_name name approved_words) words
  no-digest-word word first rest e f none digest is g =
      none-some digest (sym none ∙ ap digest_in (first-same word (encode_lower digest) rest [] (sym f ∙ rest-same name name first _ (sym e ∙ g))) ∙ approved-to digest is)

  pub no-digest-end : (word : List ℕ) (first rest : List (List ℕ)) → words ≡ name ∷ first → first ≡ word ∷ rest → (rest ≡ [] → ⊥) → LacksWhole IsDigest (after_name name approved_words) words
  no-digest-end word first rest e f more digest is g = more (rest-same word (encode_lower digest) rest [] (sym f ∙ rest-same name name first _ (sym e ∙ g)))

  pub digest-is-read : (digest word : List ℕ) (first rest : List (List ℕ)) → words ≡ name ∷ first → first ≡ word ∷ rest → rest ≡ [] → digest_in word ≡ Some digest → IsWhole IsDigest (after_name name approved_words) words digest
  digest-is-read digest word first rest e f n some = record {
    is = is-digest word digest some;
    whole = e ∙ ap (λ (ws : List (List ℕ)). name ∷ ws) (f ∙ (λ i. (digest_is word digest some).spelled i ∷ n i));
  }
