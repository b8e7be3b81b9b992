-- The header of a first volume, and of the volume after one.
use Rattle.std.proofs.Common.{◌≡◌, ◌<◌, ◌+◌, ◌^◌, List, ℕ, zero, suc, All, length, refl, arith}
use Rattle.std.specs.Int.{to_be_bytes, w32}
use Rattle.std.specs.Prelude.{Some, None, Bool, true, false, nat_lt, if◌then◌else◌}
use Rattle.std.specs.List.{AllByRecursion}
use Rattle.std.proofs.lemmas.Bool.{ltb-true, ltb-false, le-ltb, ne_eqb}
use Rattle.std.proofs.lemmas.List.Elements.{All-nil, All-append}
use Rattle.sha2.specs.Sha256.{sha256, digest_bytes}
use Rattle.sha2.proofs.Facts256.{length-sha256}
use Rattle.kc_types.specs.declared.version.Version.{Version}
use Rattle.kc_types.specs.Limits.{digest_limit}
use Rattle.kc_types.specs.Configuration.{Configuration, IsConfiguration, most_frames, most_leaves}
use Rattle.kc_types.specs.ConfigFaults.{fault_of}
use Rattle.kc_model.specs.Volumes.{IsDigest}
use Rattle.kc_trace.specs.declared.header.Header.{Header}
use Rattle.kc_trace.specs.declared.header.Header.TheVariants.{One, Two, Three}
use Rattle.kc_trace.specs.declared.header.Position.{Position}
use Rattle.kc_trace.specs.declared.header.Position.TheVariants.{First, Later}
use Rattle.kc_trace.specs.Header.{IsHead, IsPosition}
use Rattle.kc_trace.specs.Expected.{number_of}
use Rattle.kc_live.specs.Book.{IsHeaderOf, MayRecord, header_at, next_header, number_after}

word_is_bytes : (n : ℕ) → All (λ b. b < 256) (to_be_bytes w32 n)
word_is_bytes n zero d lt = omega arith
word_is_bytes n (suc zero) d lt = omega arith
word_is_bytes n (suc (suc zero)) d lt = omega arith
word_is_bytes n (suc (suc (suc zero))) d lt = omega arith
word_is_bytes n (suc (suc (suc (suc k)))) d lt = absurd (omega (arith, lt))

words_are_bytes : (words : List ℕ) (n : ℕ) → All (λ b. b < 256) (digest_bytes words n)
unfolding digest_bytes
words_are_bytes words zero = All-nil (λ b. b < 256)
words_are_bytes words (suc n) = All-append (λ b. b < 256) (digest_bytes words n) _ (words_are_bytes words n) (word_is_bytes _)

pub digest_is : (message : List ℕ) → IsDigest (sha256 message)
unfolding sha256
digest_is message = record { long = length-sha256 message; each = words_are_bytes _ 8 }

next_is : (position : Position) (digest : List ℕ) → IsPosition position → nat_lt (number_of position + 1) (2 ^ 32) ≡ true → IsDigest digest → IsPosition (Later (number_of position + 1) digest)
next_is First digest is more whole = (omega arith, omega arith, whole)
next_is (Later number after) digest is more whole = (omega (arith, is.0), ltb-true _ _ more, whole)

pub next_may : (header : Header) (digest : List ℕ) → MayRecord header → IsDigest digest → MayRecord (next_header header digest)
next_may One digest may whole = absurd may
next_may Two digest may whole = tt
next_may (Three head) digest may whole = by_flag head.is_host_redacted _ refl
  where
    by_flag : (flag fits : Bool) → nat_lt (number_of head.position + 1) (2 ^ 32) ≡ fits
        → MayRecord (header_at head.config (if flag then None else (if fits then Some (Later (number_of head.position + 1) digest) else None)))
    by_flag true fits is = tt
    by_flag false false is = tt
    by_flag false true is = record { config = may.config; digests = may.digests; position = next_is head.position digest may.position is whole }

-- ---- the header of a volume, by its number

pub head_first : (config : Configuration) → IsConfiguration config → AllByRecursion IsDigest config.approved → IsHead (record { config = config; position = First; is_host_redacted = false })
head_first config is digests = record { config = is; digests = digests; position = tt }

pub header_first : (config : Configuration) → IsConfiguration config → AllByRecursion IsDigest config.approved → IsHeaderOf 0 config (header_at config (Some First))
header_first config is digests = (head_first config is digests, refl, refl, refl)

pub header_next : (number : ℕ) (config : Configuration) (header : Header) (digest : List ℕ) → IsHeaderOf number config header → IsDigest digest → IsHeaderOf (number_after number) config (next_header header digest)
header_next number config One digest is whole = absurd is
header_next number config Two digest is whole = omega (arith, is)
header_next number config (Three head) digest is whole = by_flag head.is_host_redacted _ is.3 refl
  where
    by_flag : (flag fits : Bool) → flag ≡ false → nat_lt (number_of head.position + 1) (2 ^ 32) ≡ fits
        → IsHeaderOf (number_after number) config (header_at head.config (if flag then None else (if fits then Some (Later (number_of head.position + 1) digest) else None)))
    by_flag true fits never is_more = absurd cc
    by_flag false false same is_last = let last = ltb-false (number_of head.position + 1) (2 ^ 32) is_last in let number_is = is.2 in omega (arith, last, number_is)
    by_flag false true same is_more =
        let more = ltb-true (number_of head.position + 1) (2 ^ 32) is_more in
        let number_is = is.2 in (
          record { config = is.0.config; digests = is.0.digests; position = next_is head.position digest is.0.position is_more whole },
          is.1,
          omega (arith, more, number_is),
          refl,
        )

-- ---- a machine has no fault

pub no_fault : (c : Configuration) → IsConfiguration c → fault_of c ≡ None
no_fault c is =
    let some = is.some_frames in
    let one = is.some_leaves in
    rw (
      ne_eqb c.frames 0 (λ z. absurd (omega (arith, some, z))),
      le-ltb (most_frames c.version) c.frames is.few_frames,
      le-ltb c.frames (c.core + c.host) is.within,
      ne_eqb c.leaves 0 (λ z. absurd (omega (arith, one, z))),
      le-ltb (most_leaves c.version) c.leaves is.few_leaves,
      le-ltb digest_limit (length c.approved) is.few_digests,
    ) refl

-- a machine with the same parts is the same
pub same_machine : (c : Configuration) (version : Version) (frames core host leaves : ℕ) (approved : List (List ℕ)) → version ≡ c.version → frames ≡ c.frames → core ≡ c.core → host ≡ c.host → leaves ≡ c.leaves → approved ≡ c.approved
    → record { version = version; frames = frames; core = core; host = host; leaves = leaves; approved = approved } ≡ c
same_machine c version frames core host leaves approved v f o h l a = rw (v, f, o, h, l, a) refl
