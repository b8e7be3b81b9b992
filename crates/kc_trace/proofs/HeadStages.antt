-- What was read of a header are lines that a header begins with, and a line that may not come there continues none.
use Rattle.std.proofs.Common.{◌≡◌, ◌≤◌, ◌<◌, ◌+◌, ◌-◌, ℕ, zero, suc, Bool, false, List, [], ◌∷◌, ◌++◌, length, map, replicate, Option, Some, None, refl, sym, ap, subst, ◌∙◌, append_assoc, arith, inl, inr}
use Rattle.std.specs.Prelude.{codes, nat_le, option_map}
use Rattle.std.specs.List.{AllByRecursion}
use Rattle.std.specs.Str.{bytes_eq}
use Rattle.std.proofs.lemmas.Bool.{leb-true, leb-false, le-leb, lt-leb, cases_lt}
use Rattle.std.proofs.lemmas.List.{map-append, length-append, length-map, length-replicate}
use Rattle.std.proofs.lemmas.List.Elements.{All-replicate}
use Rattle.kc_types.specs.Limits.{digest_limit}
use Rattle.kc_types.specs.Configuration.{Configuration, IsConfiguration, slot_count}
use Rattle.kc_types.specs.declared.version.Version.TheVariants as version
use Rattle.kc_model.specs.Volumes.{IsDigest}
use Rattle.kc_lines.proofs.Words.{chosen, map_some, name_is}
use Rattle.kc_trace.specs.declared.header.Position.{Position}
use Rattle.kc_trace.specs.declared.header.Position.TheVariants.{First}
use Rattle.kc_trace.specs.declared.header.Head.{Head}
use Rattle.kc_trace.specs.declared.header.Header.{Header}
use Rattle.kc_trace.specs.declared.header.Header.TheVariants.{One, Two, Three}
use Rattle.kc_trace.specs.declared.head_reader.HeadSoFar.{HeadSoFar}
use Rattle.kc_trace.specs.declared.head_reader.HeadSoFar.TheVariants.{Nothing, FirstLine, Machine}
use Rattle.kc_trace.specs.declared.head_reader.NextLine.{NextLine}
use Rattle.kc_trace.specs.declared.head_reader.NextLine.TheVariants.{More, Whole}
use Rattle.kc_trace.specs.Header.{Begun, IsPosition, IsHead, IsHeader, machine_line, approved_line, last_line, position_line, head_lines, header_lines}
use Rattle.kc_trace.specs.HeadReading.{words_in, machine_in, approved_in, last_in, approving, head_of, first_line_read, machine_line_read, next_line, next_number}
use Rattle.kc_trace.proofs.HeadWords.{IsBegun, emptied, machine_spelled, approved_spelled, last_spelled, machine_again, approved_again, last_again}

-- ---- the lines that were read

abbrev pub lines_so_far : HeadSoFar → List (List ℕ)
lines_so_far Nothing = []
lines_so_far FirstLine = codes "kcore-trace 3" ∷ []
lines_so_far (Machine begun) = codes "kcore-trace 3" ∷ machine_line begun.config begun.awaited ∷ map approved_line begun.config.approved

abbrev pub IsSoFar : HeadSoFar → Type 0
IsSoFar Nothing = Unit {0}
IsSoFar FirstLine = Unit {0}
IsSoFar (Machine begun) = IsBegun begun

-- the line of a machine does not depend on which digests it approves
pub machine_line_same : (config : Configuration) (digests : List (List ℕ)) (awaited : ℕ) → machine_line (record config { approved = digests }) awaited ≡ machine_line config awaited
unfolding machine_line slot_count
machine_line_same config digests awaited = refl

all_pushed : (digests : List (List ℕ)) (digest : List ℕ) → AllByRecursion IsDigest digests → IsDigest digest → AllByRecursion IsDigest (digests ++ digest ∷ [])
all_pushed [] digest each is = (is, tt)
all_pushed (d ∷ digests) digest each is = (each.0, all_pushed digests digest each.1 is)

-- with more digests, as long as they are few
config_with : (config : Configuration) (digests : List (List ℕ)) → IsConfiguration config → length digests ≤ digest_limit → IsConfiguration (record config { approved = digests })
config_with config digests is few = record {
  some_frames = is.some_frames;
  few_frames = is.few_frames;
  within = is.within;
  some_leaves = is.some_leaves;
  few_leaves = is.few_leaves;
  few_digests = few;
}

pub approving_is : (begun : Begun) (digest : List ℕ) → IsBegun begun → length begun.config.approved < begun.awaited → IsDigest digest → IsBegun (approving begun digest)
approving_is begun digest is lt digest_is =
    let size = length-append begun.config.approved (digest ∷ []) in
    let few = is.few in
    record {
      config = config_with begun.config (begun.config.approved ++ digest ∷ []) is.config (omega (arith, size, lt, few));
      few = few;
      within = omega (arith, size, lt);
      digests = all_pushed begun.config.approved digest is.digests digest_is;
    }

-- ---- a line that may come there

-- what was read with the line
pub record IsMore (head next : HeadSoFar) (line : List ℕ) : Type 0 where
  pub lines : lines_so_far next ≡ lines_so_far head ++ line ∷ []
  pub is : IsSoFar next

-- a whole header, of which this is the last line
pub record IsWhole (head : HeadSoFar) (header : Header) (line : List ℕ) : Type 0 where
  pub lines : header_lines header ≡ lines_so_far head ++ line ∷ []
  pub is : IsHeader header

-- what the next line makes of what was read
abbrev pub IsNext : HeadSoFar → List ℕ → NextLine → Type 0
IsNext head line (More next) = IsMore head next line
IsNext head line (Whole header) = IsWhole head header line

first_next : (line : List ℕ) (next : NextLine) → first_line_read line ≡ Some next → IsNext Nothing line next
first_next line next e = elim (chosen (bytes_eq line (codes "kcore-trace 1")) (Some (Whole One)) _ (Some next) e) [
  | inl h ↦ let same : Whole One ≡ next = cc in subst (IsNext Nothing line) same (record { lines = ap (λ l. l ∷ []) (sym (name_is line (codes "kcore-trace 1") h.0)); is = tt })
  | inr h ↦ elim (chosen (bytes_eq line (codes "kcore-trace 2")) (Some (Whole Two)) _ (Some next) h.1) [
    | inl g ↦ let same : Whole Two ≡ next = cc in subst (IsNext Nothing line) same (record { lines = ap (λ l. l ∷ []) (sym (name_is line (codes "kcore-trace 2") g.0)); is = tt })
    | inr g ↦ elim (chosen (bytes_eq line (codes "kcore-trace 3")) (Some (More FirstLine)) None (Some next) g.1) [
      | inl f ↦ let same : More FirstLine ≡ next = cc in subst (IsNext Nothing line) same (record { lines = ap (λ l. l ∷ []) (sym (name_is line (codes "kcore-trace 3") f.0)); is = tt })
      | inr f ↦ absurd cc
    ]
  ]
]

machine_next : (line : List ℕ) (next : NextLine) → option_map (λ begun. More (Machine begun)) (machine_in (words_in line)) ≡ Some next → IsNext FirstLine line next
machine_next line next e =
    let found = map_some (λ begun. More (Machine begun)) (machine_in (words_in line)) next e in
    let begun = found.0 in
    let is = machine_spelled line begun found.1 in
    subst (IsNext FirstLine line) found.2 (record {
      lines = ap (λ l. codes "kcore-trace 3" ∷ l ∷ map approved_line begun.config.approved) (sym is.0) ∙ ap (λ digests. codes "kcore-trace 3" ∷ line ∷ map approved_line digests) is.1;
      is = is.2;
    })

approved_next : (begun : Begun) (line : List ℕ) (next : NextLine) → IsBegun begun → length begun.config.approved < begun.awaited
    → option_map (λ digest. More (Machine (approving begun digest))) (approved_in (words_in line)) ≡ Some next → IsNext (Machine begun) line next
approved_next begun line next is lt e =
    let found = map_some (λ digest. More (Machine (approving begun digest))) (approved_in (words_in line)) next e in
    let digest = found.0 in
    let spelled = approved_spelled line digest found.1 in
    subst (IsNext (Machine begun) line) found.2 (record {
      lines =
          ap (λ l. codes "kcore-trace 3" ∷ l ∷ map approved_line (begun.config.approved ++ digest ∷ [])) (machine_line_same begun.config (begun.config.approved ++ digest ∷ []) begun.awaited)
          ∙ ap (λ ls. codes "kcore-trace 3" ∷ machine_line begun.config begun.awaited ∷ ls) (map-append approved_line begun.config.approved (digest ∷ []))
          ∙ ap (λ l. (codes "kcore-trace 3" ∷ machine_line begun.config begun.awaited ∷ map approved_line begun.config.approved) ++ l ∷ []) (sym spelled.0);
      is = approving_is begun digest is lt spelled.1;
    })

last_next : (begun : Begun) (line : List ℕ) (next : NextLine) → IsBegun begun → begun.awaited ≤ length begun.config.approved
    → option_map (λ last. Whole (Three (head_of begun last))) (last_in (words_in line)) ≡ Some next → IsNext (Machine begun) line next
last_next begun line next is le e =
    let found = map_some (λ last. Whole (Three (head_of begun last))) (last_in (words_in line)) next e in
    let last = found.0 in
    let spelled = last_spelled line last found.1 in
    let within = is.within in
    let all : length begun.config.approved ≡ begun.awaited = omega (arith, le, within) in
    subst (IsNext (Machine begun) line) found.2 (record {
      lines =
          ap (λ n. codes "kcore-trace 3" ∷ machine_line begun.config n ∷ (map approved_line begun.config.approved ++ last_line last.0 last.1 ∷ [])) all
          ∙ ap (λ l. (codes "kcore-trace 3" ∷ machine_line begun.config begun.awaited ∷ map approved_line begun.config.approved) ++ l ∷ []) (sym spelled.0);
      is = record { config = is.config; digests = is.digests; position = spelled.1 };
    })

pub line_next : (head : HeadSoFar) (line : List ℕ) (next : NextLine) → IsSoFar head → next_line head line ≡ Some next → IsNext head line next
line_next Nothing line next is e = first_next line next e
line_next FirstLine line next is e = machine_next line next e
line_next (Machine begun) line next is e = elim (chosen (nat_le begun.awaited (length begun.config.approved)) _ _ (Some next) e) [
  | inl h ↦ last_next begun line next is (leb-true _ _ h.0) h.1
  | inr h ↦ approved_next begun line next is (leb-false _ _ h.0) h.1
]

-- ---- a header goes on after what was read

-- a header has a line after these
abbrev pub GoesOn : List (List ℕ) → Type 0
GoesOn lines = (header : Header) × (next : List ℕ) × (more : List (List ℕ)) × IsHeader header × (header_lines header ≡ lines ++ next ∷ more)

-- the machine of one frame
abbrev smallest : Configuration
smallest = record { version = version.One; frames = 1; core = 0; host = 0; leaves = 1; approved = [] }

smallest_is : IsConfiguration smallest
smallest_is = record { some_frames = omega arith; few_frames = omega arith; within = omega arith; some_leaves = omega arith; few_leaves = omega arith; few_digests = omega arith }

abbrev zeros : List ℕ
zeros = replicate {A = ℕ} 32 0

zeros_are : IsDigest zeros
zeros_are = record { long = length-replicate {A = ℕ} 32 0; each = All-replicate (λ b. b < 256) 32 0 (omega arith) }

all_zeros : (n : ℕ) (digests : List (List ℕ)) → AllByRecursion IsDigest digests → AllByRecursion IsDigest (digests ++ replicate n zeros)
all_zeros n (d ∷ digests) each = (each.0, all_zeros n digests each.1)
all_zeros zero [] each = tt
all_zeros (suc n) [] each = (zeros_are, all_zeros n [] tt)

some_first : (lines : List (List ℕ)) (last : List ℕ) → (next : List ℕ) × (more : List (List ℕ)) × (lines ++ last ∷ [] ≡ next ∷ more)
some_first [] last = (last, [], refl)
some_first (line ∷ lines) last = (line, lines ++ last ∷ [], refl)

goes_on_from : (begun : Begun) → IsBegun begun → GoesOn (lines_so_far (Machine begun))
goes_on_from begun is =
    let config = begun.config in
    let rest : List (List ℕ) = replicate (begun.awaited - length config.approved) zeros in
    let all : List (List ℕ) = config.approved ++ rest in
    let within = is.within in
    let few = is.few in
    let many : length all ≡ begun.awaited = omega (arith, length-append config.approved rest, length-replicate (begun.awaited - length config.approved) zeros, within) in
    let head : Head = record { config = record config { approved = all }; position = First; is_host_redacted = false } in
    let after = some_first (map approved_line rest) (position_line First) in (
      Three head,
      after.0,
      after.1,
      record { config = config_with config all is.config (omega (arith, many, few)); digests = all_zeros (begun.awaited - length config.approved) config.approved is.digests; position = tt },
      ap (λ n. codes "kcore-trace 3" ∷ machine_line (record config { approved = all }) n ∷ (map approved_line all ++ position_line First ∷ [])) many
          ∙ ap (λ l. codes "kcore-trace 3" ∷ l ∷ (map approved_line all ++ position_line First ∷ [])) (machine_line_same config all begun.awaited)
          ∙ ap (λ ls. codes "kcore-trace 3" ∷ machine_line config begun.awaited ∷ (ls ++ position_line First ∷ [])) (map-append approved_line config.approved rest)
          ∙ ap (λ ls. codes "kcore-trace 3" ∷ machine_line config begun.awaited ∷ ls) (append_assoc (map approved_line config.approved) (map approved_line rest) (position_line First ∷ []) ∙ ap (λ ls. map approved_line config.approved ++ ls) after.2),
    )

pub goes_on : (head : HeadSoFar) → IsSoFar head → GoesOn (lines_so_far head)
goes_on Nothing is = (One, codes "kcore-trace 1", [], tt, refl)
goes_on FirstLine is = (Three (record { config = smallest; position = First; is_host_redacted = false }), machine_line smallest 0, position_line First ∷ [], record { config = smallest_is; digests = tt; position = tt }, refl)
goes_on (Machine begun) is = goes_on_from begun is

-- ---- a line that a header has there is read

accepts_first : (line : List ℕ) (header : Header) (more : List (List ℕ)) → header_lines header ≡ line ∷ more → (next : NextLine) × (first_line_read line ≡ Some next)
accepts_first line One more e = let same : codes "kcore-trace 1" ≡ line = cc in (Whole One, ap first_line_read (sym same))
accepts_first line Two more e = let same : codes "kcore-trace 2" ≡ line = cc in (Whole Two, ap first_line_read (sym same))
accepts_first line (Three head) more e = let same : codes "kcore-trace 3" ≡ line = cc in (More FirstLine, ap first_line_read (sym same))

second_line : (line : List ℕ) (header : Header) (more : List (List ℕ)) → IsHeader header → header_lines header ≡ codes "kcore-trace 3" ∷ line ∷ more → (head : Head) × IsHead head × (head_lines head ≡ line ∷ more)
second_line line One more is e = absurd cc
second_line line Two more is e = absurd cc
second_line line (Three head) more is e = (head, is, cc)

accepts_machine : (line : List ℕ) (header : Header) (more : List (List ℕ)) → IsHeader header → header_lines header ≡ codes "kcore-trace 3" ∷ line ∷ more → (next : NextLine) × (next_line FirstLine line ≡ Some next)
accepts_machine line header more is e =
    let second = second_line line header more is e in
    let head = second.0 in
    let same : machine_line head.config (length head.config.approved) ≡ line = let lines = second.2 in cc in
    let read = machine_again head.config (length head.config.approved) second.1.config second.1.config.few_digests in
    (_, ap (λ l. next_line FirstLine l) (sym same) ∙ ap (λ found. option_map (λ begun. More (Machine begun)) found) read)

-- a line after fewer digests than there are is that of a digest
next_digest : (xs ys : List (List ℕ)) (line last : List ℕ) (more : List (List ℕ)) → AllByRecursion IsDigest xs → length ys < length xs → map approved_line xs ++ last ∷ [] ≡ map approved_line ys ++ line ∷ more
    → (digest : List ℕ) × IsDigest digest × (approved_line digest ≡ line)
next_digest [] ys line last more each lt e = absurd (omega (arith, lt))
next_digest (x ∷ xs) [] line last more each lt e = (x, each.0, cc)
next_digest (x ∷ xs) (y ∷ ys) line last more each lt e = next_digest xs ys line last more each.1 (omega (arith, lt)) cc

-- a line after all of them is the last
next_last : (xs ys : List (List ℕ)) (line last : List ℕ) (more : List (List ℕ)) → length ys ≡ length xs → map approved_line xs ++ last ∷ [] ≡ map approved_line ys ++ line ∷ more → last ≡ line
next_last [] [] line last more same e = cc
next_last [] (y ∷ ys) line last more same e = absurd (omega (arith, same))
next_last (x ∷ xs) [] line last more same e = absurd (omega (arith, same))
next_last (x ∷ xs) (y ∷ ys) line last more same e = next_last xs ys line last more (omega (arith, same)) cc

-- one line is of one number of digests
same_awaited : (config other : Configuration) (one two : ℕ) → IsConfiguration config → IsConfiguration other → one ≤ digest_limit → two ≤ digest_limit → machine_line config one ≡ machine_line other two → one ≡ two
same_awaited config other one two is other_is few_one few_two e =
    let both : Some (record { config = emptied config; awaited = one }) ≡ Some (record { config = emptied other; awaited = two }) =
    sym (machine_again config one is few_one) ∙ ap (λ l. machine_in (words_in l)) e ∙ machine_again other two other_is few_two in
    ap awaited_of both
  where
    awaited_of : Option Begun → ℕ
    awaited_of None = 0
    awaited_of (Some begun) = begun.awaited

-- a header that begins so has as many lines as its machine awaits digests, and three more
pub many_lines : (begun : Begun) (header : Header) (rest : List (List ℕ)) → IsBegun begun → IsHeader header → header_lines header ≡ lines_so_far (Machine begun) ++ rest → length (header_lines header) ≡ begun.awaited + 3
many_lines begun header rest is header_is e =
    let second = second_line (machine_line begun.config begun.awaited) header (map approved_line begun.config.approved ++ rest) header_is e in
    let head = second.0 in
    let lines = second.2 in
    let first : machine_line head.config (length head.config.approved) ≡ machine_line begun.config begun.awaited = cc in
    let many : length head.config.approved ≡ begun.awaited = same_awaited head.config begun.config (length head.config.approved) begun.awaited second.1.config is.config second.1.config.few_digests is.few first in
    let size : length (header_lines header) ≡ suc (length (head_lines head)) = ap length (e ∙ ap (λ ls. codes "kcore-trace 3" ∷ ls) (sym lines)) in
    omega (arith, size, many, length-append (map approved_line head.config.approved) (last_line head.position head.is_host_redacted ∷ []), length-map head.config.approved approved_line)

read_digest_line : (line digest : List ℕ) → IsDigest digest → approved_line digest ≡ line → approved_in (words_in line) ≡ Some digest
read_digest_line line digest is same = ap (λ l. approved_in (words_in l)) (sym same) ∙ approved_again digest is

read_last_line : (line : List ℕ) (position : Position) (flag : Bool) → IsPosition position → last_line position flag ≡ line → last_in (words_in line) ≡ Some (position, flag)
read_last_line line position flag is same = ap (λ l. last_in (words_in l)) (sym same) ∙ last_again position flag is

accepts_more : (begun : Begun) (line : List ℕ) (header : Header) (more : List (List ℕ)) → IsBegun begun → IsHeader header → header_lines header ≡ lines_so_far (Machine begun) ++ line ∷ more → (next : NextLine) × (machine_line_read begun line ≡ Some next)
accepts_more begun line header more is header_is e =
    let approved = begun.config.approved in
    let second = second_line (machine_line begun.config begun.awaited) header (map approved_line approved ++ line ∷ more) header_is e in
    let head = second.0 in
    let lines = second.2 in
    let first : machine_line head.config (length head.config.approved) ≡ machine_line begun.config begun.awaited = cc in
    let rest : map approved_line head.config.approved ++ last_line head.position head.is_host_redacted ∷ [] ≡ map approved_line approved ++ line ∷ more = cc in
    let many : length head.config.approved ≡ begun.awaited = same_awaited head.config begun.config (length head.config.approved) begun.awaited second.1.config is.config second.1.config.few_digests is.few first in
    let within = is.within in
    elim (cases_lt (length approved) begun.awaited) [
      | inl lt ↦
          let digest = next_digest head.config.approved approved line (last_line head.position head.is_host_redacted) more second.1.digests (omega (arith, lt, many)) rest in
          let read = read_digest_line line digest.0 digest.1 digest.2 in
          (More (Machine (approving begun digest.0)), rw (lt-leb begun.awaited (length approved) lt, read) refl)
      | inr le ↦
          let last = next_last head.config.approved approved line (last_line head.position head.is_host_redacted) more (omega (arith, le, many, within)) rest in
          let read = read_last_line line head.position head.is_host_redacted second.1.position last in
          (Whole (Three (head_of begun (head.position, head.is_host_redacted))), rw (le-leb begun.awaited (length approved) le, read) refl)
    ]

pub accepts : (head : HeadSoFar) (line : List ℕ) (header : Header) (more : List (List ℕ)) → IsSoFar head → IsHeader header → header_lines header ≡ lines_so_far head ++ line ∷ more → (next : NextLine) × (next_line head line ≡ Some next)
accepts Nothing line header more is header_is e = accepts_first line header more e
accepts FirstLine line header more is header_is e = accepts_machine line header more header_is e
accepts (Machine begun) line header more is header_is e = accepts_more begun line header more is header_is e

-- the number of the next line is one more than there were
pub numbered_next : (head : HeadSoFar) → next_number head ≡ length (lines_so_far head) + 1
numbered_next Nothing = refl
numbered_next FirstLine = refl
numbered_next (Machine begun) = omega (arith, length-map begun.config.approved approved_line)
