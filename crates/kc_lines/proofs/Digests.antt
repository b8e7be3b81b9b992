-- A digest has one spelling of 64 lower case digits.
use Rattle.std.proofs.Common.{◌≡◌, ◌<◌, ◌*◌, ℕ, List, length, All, Option, Some, None, refl, ap, ◌∙◌, arith, inl, inr}
use Rattle.std.specs.Prelude.{◌==◌}
use Rattle.std.proofs.lemmas.Bool.{eqb-true, eq-eqb}
use Rattle.hex.specs.Hex.{encode_lower, lower_digits}
use Rattle.hex.proofs.HexLemmas.{length-encode_with}
use Rattle.kc_lines.specs.Words.{data_of, digest_in}
use Rattle.kc_lines.proofs.Digits.{data_is_spelled, read_as_spelled}
use Rattle.kc_lines.proofs.Words.{chosen}

pub digest_read : (word bytes : List ℕ) → length word ≡ 64 → word ≡ encode_lower bytes → All (λ b. b < 256) bytes → digest_in word ≡ Some bytes
unfolding digest_in
digest_read word bytes long spelled each = rw (eq-eqb (length word) 64 long) (read_as_spelled word bytes (omega (arith, long)) (omega (arith, long)) spelled each)

pub digest_again : (digest : List ℕ) → length digest ≡ 32 → All (λ b. b < 256) digest → digest_in (encode_lower digest) ≡ Some digest
digest_again digest long each = digest_read (encode_lower digest) digest (omega (arith, long, length-encode_with lower_digits digest)) refl each

-- what is read as a digest spells it
pub record IsDigestWord (word digest : List ℕ) : Type 0 where
  pub spelled : word ≡ encode_lower digest
  pub long : length digest ≡ 32
  pub each : All (λ b. b < 256) digest

pub digest_is : (word digest : List ℕ) → digest_in word ≡ Some digest → IsDigestWord word digest
unfolding digest_in
digest_is word digest e = elim (chosen (length word == 64) (data_of word) None (Some digest) e) [
  | inl h ↦
      let bytes = data_is_spelled word digest h.1 in
      let long : length word ≡ 64 = eqb-true _ _ h.0 in
      let size : length word ≡ 2 * length digest = ap length bytes.0 ∙ length-encode_with lower_digits digest in
      record { spelled = bytes.0; long = omega (arith, long, size); each = bytes.1.each_byte }
  | inr h ↦ absurd cc
]
