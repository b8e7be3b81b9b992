-- Each line of a head is one line, and no longer than that of a call, and so is the head.
use Rattle.std.proofs.Common.{ℕ, ◌≡◌, ◌≤◌, Bool, true, false, List, [], ◌∷◌, ◌++◌, length, map, refl, ap, arith, length-append}
use Rattle.std.specs.Prelude.{◌*◌, codes}
use Rattle.std.specs.List.{AllByRecursion, flat_map}
use Rattle.std.specs.Fmt.{decimal}
use Rattle.kc_trace.specs.declared.header.Head.{Head}
use Rattle.kc_trace.specs.declared.header.Position.{Position}
use Rattle.kc_trace.specs.declared.header.Position.TheVariants.{First, Later}
use Rattle.kc_trace.specs.declared.header.Header.TheVariants.{Three}
use Rattle.kc_trace.specs.Header.{IsHead, IsPosition, machine_numbers, machine_line, approved_line, position_words, redaction_words, last_line, position_line, head_lines, ended_lines, trace_header}
use Rattle.hex.specs.Hex.{encode_lower, lower_digits}
use Rattle.hex.proofs.HexLemmas.{length-encode_with}
use Rattle.kc_model.specs.Volumes.{IsDigest}
use Rattle.kc_types.specs.Limits.{digest_limit, line_limit}
use Rattle.kc_lines.specs.Lines.{IsOneLine}
use Rattle.kc_types.specs.Configuration.{Configuration, IsConfiguration}
use Rattle.kc_model.specs.Ranged.{IsWord}
use Rattle.std.proofs.lemmas.Fmt.{length-decimal-le}
use Rattle.kc_lines.proofs.Words.{width, join_is_one_line, length-join}
use Rattle.kc_trace.proofs.HeadWords.{head_ended, approved_words_are, last_words_are, machine_line_words, numbers_fit}

width_of : (numbers : List ℕ) → AllByRecursion IsWord numbers → width (map decimal numbers) ≤ 11 * length numbers
width_of [] each = omega arith
width_of (number ∷ numbers) each = omega (arith, length-decimal-le 10 number (omega arith) (omega arith) (let fits = each.0 in omega (arith, fits)), width_of numbers each.1)

abbrev pub Fits : List ℕ → Type 0
Fits line = IsOneLine line × (length line ≤ line_limit)

pub machine_fits : (config : Configuration) (awaited : ℕ) → IsConfiguration config → awaited ≤ digest_limit → Fits (machine_line config awaited)
unfolding machine_line
machine_fits config awaited is few =
    (join_is_one_line (codes "config") (map decimal (machine_numbers config awaited)) (machine_line_words config awaited is few), omega (arith, length-join (codes "config") (map decimal (machine_numbers config awaited)), width_of (machine_numbers config awaited) (numbers_fit config awaited is few)))

pub approved_fits : (digest : List ℕ) → IsDigest digest → Fits (approved_line digest)
unfolding approved_line
approved_fits digest is =
    let long = is.long in
    (join_is_one_line (codes "approved") (encode_lower digest ∷ []) (approved_words_are digest is), omega (arith, length-join (codes "approved") (encode_lower digest ∷ []), length-encode_with lower_digits digest, long))

position_width : (position : Position) → IsPosition position → width (position_words position) ≤ 80
position_width First is = omega arith
position_width (Later number after) is =
    let long = is.2.long in
    let fits = is.1 in
    omega (arith, length-decimal-le 10 number (omega arith) (omega arith) (omega (arith, fits)), length-encode_with lower_digits after, long)

last_width : (position : Position) (flag : Bool) → IsPosition position → width (position_words position ++ redaction_words flag) ≤ 94
last_width First false is = omega arith
last_width First true is = omega arith
last_width (Later number after) false is = let narrow = position_width (Later number after) is in omega (arith, narrow)
last_width (Later number after) true is = let narrow = position_width (Later number after) is in omega (arith, narrow)

pub last_fits : (position : Position) (flag : Bool) → IsPosition position → Fits (last_line position flag)
unfolding last_line
last_fits position flag is =
    let words : List (List ℕ) = position_words position ++ redaction_words flag in
    (join_is_one_line (codes "volume") words (last_words_are position flag is), omega (arith, length-join (codes "volume") words, last_width position flag is))

pub position_fits : (position : Position) → IsPosition position → Fits (position_line position)
position_fits position is = last_fits position false is

-- ---- how long a head is

machine_width : (config : Configuration) (awaited : ℕ) → IsConfiguration config → awaited ≤ digest_limit → length (machine_line config awaited) ≤ 83
unfolding machine_line
machine_width config awaited is few = omega (arith, length-join (codes "config") (map decimal (machine_numbers config awaited)), width_of (machine_numbers config awaited) (numbers_fit config awaited is few))

approved_width : (digest : List ℕ) → IsDigest digest → length (approved_line digest) ≡ 73
unfolding approved_line
approved_width digest is =
    let long = is.long in
    omega (arith, length-join (codes "approved") (encode_lower digest ∷ []), length-encode_with lower_digits digest, long)

last_line_width : (position : Position) (flag : Bool) → IsPosition position → length (last_line position flag) ≤ 100
unfolding last_line
last_line_width position flag is = omega (arith, length-join (codes "volume") (position_words position ++ redaction_words flag), last_width position flag is)

digests_width : (digests : List (List ℕ)) → AllByRecursion IsDigest digests → length (flat_map (λ digest. approved_line digest ++ 10 ∷ []) digests) ≡ 74 * length digests
digests_width [] each = refl
digests_width (digest ∷ digests) each = omega (arith, length-append (approved_line digest ++ 10 ∷ []) (flat_map (λ d. approved_line d ++ 10 ∷ []) digests), length-append (approved_line digest) (10 ∷ []), approved_width digest each.0, digests_width digests each.1)

-- a head is no longer than the longest line of a call
pub head_width : (head : Head) → IsHead head → length (trace_header (Three head)) ≤ line_limit
head_width head is =
    let config = head.config in
    let few = is.config.few_digests in
    let machine : List ℕ = machine_line config (length config.approved) ++ 10 ∷ [] in
    let digests : List ℕ = flat_map (λ digest. approved_line digest ++ 10 ∷ []) config.approved in
    let last : List ℕ = last_line head.position head.is_host_redacted ++ 10 ∷ [] in
    omega (
      arith,
      few,
      length-append (codes "kcore-trace 3" ++ 10 ∷ []) (ended_lines (head_lines head)),
      ap length (head_ended head),
      length-append machine (digests ++ last),
      length-append digests last,
      length-append (machine_line config (length config.approved)) (10 ∷ []),
      length-append (last_line head.position head.is_host_redacted) (10 ∷ []),
      machine_width config (length config.approved) is.config few,
      digests_width config.approved is.digests,
      last_line_width head.position head.is_host_redacted is.position,
    )
