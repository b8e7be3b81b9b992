-- What is read of the lines of a header.
use Rattle.std.proofs.Common.{◌≡◌, ◌⊎◌, ◌≤◌, ◌<◌, ◌+◌, ℕ, Bool, true, false, cond, List, [], ◌∷◌, ◌++◌, length, map, Option, Some, None, Ok, Err, refl, sym, ap, subst, ◌∙◌, append_assoc, append-nil, arith, inl, inr, length-append}
use Rattle.std.specs.Prelude.{codes, nat_le, ◌==◌, option_map}
use Rattle.std.specs.List.{AllByRecursion}
use Rattle.std.specs.Str.{bytes_eq}
use Rattle.std.proofs.lemmas.Bool.{eqb-true, le-leb, leb-true, lt-leb, cases_Bool}
use Rattle.std.proofs.lemmas.List.{length-map}
use Rattle.std.proofs.lemmas.Grind.{flat_map-append}
use Rattle.kc_types.specs.Limits.{line_limit}
use Rattle.kc_types.specs.declared.call.Call.{Call}
use Rattle.kc_model.specs.Volumes.{IsDigest}
use Rattle.kc_lines.specs.Lines.{IsOneLine}
use Rattle.kc_lines.proofs.Words.{chosen, map_some, name_is}
use Rattle.kc_trace.specs.declared.fault.TraceFault.TheVariants.{NoHeader, BadLine}
use Rattle.kc_trace.specs.declared.header.Head.{Head}
use Rattle.kc_trace.specs.declared.header.Header.{Header}
use Rattle.kc_trace.specs.declared.header.Header.TheVariants.{One, Two, Three}
use Rattle.kc_trace.specs.declared.head_reader.HeadSoFar.{HeadSoFar}
use Rattle.kc_trace.specs.declared.head_reader.HeadSoFar.TheVariants.{Nothing, FirstLine, Machine}
use Rattle.kc_trace.specs.declared.head_reader.NextLine.{NextLine}
use Rattle.kc_trace.specs.declared.head_reader.NextLine.TheVariants.{More, Whole}
use Rattle.kc_trace.specs.Header.{Begun, IsHead, IsHeader, machine_line, approved_line, last_line, header_lines, ended_lines, trace_header}
use Rattle.kc_trace.specs.HeadReading.{words_in, machine_in, approved_in, last_in, approving, next_line}
use Rattle.kc_trace.specs.Machine.{◌>>=◌, Progress, start, kept, longer, next_of_line, may_begin, head_fault, after_header, feed, ended}
use Rattle.kc_trace.specs.Trace.{GoesOnWith, StopsInHeader}
use Rattle.kc_trace.proofs.Runs.{and_then_feed, front_nothing, feed_nothing, feed_begun, feed_ended}
use Rattle.kc_trace.proofs.HeadWords.{IsBegun, emptied, machine_spelled, approved_spelled, last_spelled, machine_again, approved_again, last_again}
use Rattle.kc_trace.proofs.HeadWidths.{Fits, machine_fits, approved_fits, last_fits}
use Rattle.kc_trace.proofs.HeadStages.{lines_so_far, IsSoFar, line_next, goes_on, accepts, numbered_next, approving_is, many_lines}
use Rattle.kc_trace.proofs.Outcomes.{at_line, outcome, finished, outcome-stuck, one_line_pushed}

-- ---- one line

-- at the start of a line of the header
abbrev at_head : HeadSoFar → Progress
at_head head = record { header = None; head = head; calls = 0; line = Some [] }

step_more : (head next : HeadSoFar) (line rest : List ℕ) → IsOneLine line → next_of_line head (kept line) ≡ Some (More next) → feed (at_head head) (line ++ 10 ∷ rest) ≡ feed (at_head next) rest
step_more head next line rest one e =
    feed_ended (at_head head) line rest one ∙ ap (λ found. and_then_feed rest (after_header (longer (at_head head) line) found)) e ∙ front_nothing (feed (at_head next) rest)

step_whole : (head : HeadSoFar) (header : Header) (line rest : List ℕ) → IsOneLine line → next_of_line head (kept line) ≡ Some (Whole header) → feed (at_head head) (line ++ 10 ∷ rest) ≡ feed (at_line header 0) rest
step_whole head header line rest one e =
    feed_ended (at_head head) line rest one ∙ ap (λ found. and_then_feed rest (after_header (longer (at_head head) line) found)) e ∙ front_nothing (feed (at_line header 0) rest)

step_stuck : (head : HeadSoFar) (line rest : List ℕ) → IsOneLine line → next_of_line head (kept line) ≡ None → outcome (at_head head) (line ++ 10 ∷ rest) ≡ Err (head_fault head)
step_stuck head line rest one e = outcome-stuck (at_head head) line rest (head_fault head) one (ap (after_header (longer (at_head head) line)) e)

kept_fits : (head : HeadSoFar) (line : List ℕ) → Fits line → next_of_line head (kept line) ≡ next_line head line
kept_fits head line fits = rw (le-leb (length line) line_limit fits.1) refl

kept_is : (head : HeadSoFar) (line : List ℕ) (next : NextLine) → next_of_line head (kept line) ≡ Some next → next_line head line ≡ Some next
kept_is head line next = by_test (nat_le (length line) line_limit)
  where
    by_test : (b : Bool) → next_of_line head (cond b (Some line) None) ≡ Some next → next_line head line ≡ Some next
    by_test true e = e
    by_test false e = absurd cc

-- ---- a line that is read fits

-- a line that is a name
named_fits : (name : List ℕ) → IsOneLine name → length name ≤ 13 → (line : List ℕ) → line ≡ name → Fits line
named_fits name one short line e = subst Fits (sym e) (one, omega (arith, short))

first_fits : (line : List ℕ) (next : NextLine) → next_line Nothing line ≡ Some next → Fits line
first_fits line next e = elim (chosen (bytes_eq line (codes "kcore-trace 1")) (Some (Whole One)) _ (Some next) e) [
  | inl h ↦ named_fits (codes "kcore-trace 1") refl (omega arith) line (name_is line (codes "kcore-trace 1") h.0)
  | inr h ↦ elim (chosen (bytes_eq line (codes "kcore-trace 2")) (Some (Whole Two)) _ (Some next) h.1) [
    | inl g ↦ named_fits (codes "kcore-trace 2") refl (omega arith) line (name_is line (codes "kcore-trace 2") g.0)
    | inr g ↦ elim (chosen (bytes_eq line (codes "kcore-trace 3")) (Some (More FirstLine)) None (Some next) g.1) [
      | inl f ↦ named_fits (codes "kcore-trace 3") refl (omega arith) line (name_is line (codes "kcore-trace 3") f.0)
      | inr f ↦ absurd cc
    ]
  ]
]

pub read_fits : (head : HeadSoFar) (line : List ℕ) (next : NextLine) → next_line head line ≡ Some next → Fits line
read_fits Nothing line next e = first_fits line next e
read_fits FirstLine line next e =
    let found = map_some (λ begun. More (Machine begun)) (machine_in (words_in line)) next e in
    let is = machine_spelled line found.0 found.1 in
    subst Fits (sym is.0) (machine_fits found.0.config found.0.awaited is.2.config is.2.few)
read_fits (Machine begun) line next e = elim (chosen (nat_le begun.awaited (length begun.config.approved)) _ _ (Some next) e) [
  | inl h ↦
      let found = map_some _ (last_in (words_in line)) next h.1 in
      let is = last_spelled line found.0 found.1 in
      subst Fits (sym is.0) (last_fits found.0.0 found.0.1 is.1)
  | inr h ↦
      let found = map_some _ (approved_in (words_in line)) next h.1 in
      let is = approved_spelled line found.0 found.1 in
      subst Fits (sym is.0) (approved_fits found.0 is.1)
]

-- ---- lines that a header has

-- a header with more lines than a whole one is not read as whole
no_whole : (head : HeadSoFar) (line next : List ℕ) (more : List (List ℕ)) (header whole : Header) → IsSoFar head → IsHeader header → header_lines header ≡ lines_so_far head ++ line ∷ next ∷ more → next_line head line ≡ Some (Whole whole) → ⊥
no_whole Nothing line next more One whole is header_is e read = absurd cc
no_whole Nothing line next more Two whole is header_is e read = absurd cc
no_whole Nothing line next more (Three head) whole is header_is e read =
    let first : codes "kcore-trace 3" ≡ line = cc in
    let same : next_line Nothing (codes "kcore-trace 3") ≡ Some (Whole whole) = ap (next_line Nothing) first ∙ read in
    absurd cc
no_whole FirstLine line next more header whole is header_is e read =
    let found = map_some (λ begun. More (Machine begun)) (machine_in (words_in line)) (Whole whole) read in
    let same = found.2 in
    absurd cc
no_whole (Machine begun) line next more header whole is header_is e read = elim (chosen (nat_le begun.awaited (length begun.config.approved)) _ _ (Some (Whole whole)) read) [
  | inl h ↦
      let le = leb-true begun.awaited (length begun.config.approved) h.0 in
      let size = many_lines begun header (line ∷ next ∷ more) is header_is e in
      let same : length (header_lines header) ≡ length (lines_so_far (Machine begun) ++ line ∷ next ∷ more) = ap length e in
      absurd (omega (arith, le, size, same, length-append (lines_so_far (Machine begun)) (line ∷ next ∷ more), length-map begun.config.approved approved_line))
  | inr h ↦
      let found = map_some (λ digest. More (Machine (approving begun digest))) (approved_in (words_in line)) (Whole whole) h.1 in
      let same = found.2 in
      absurd cc
]

-- how far the header is read after some lines of it
record IsReached (head : HeadSoFar) (lines : List (List ℕ)) (rest : List ℕ) : Type 0 where
  reached : HeadSoFar
  is : IsSoFar reached
  lines_are : lines_so_far reached ≡ lines_so_far head ++ lines
  goes : feed (at_head head) (ended_lines lines ++ rest) ≡ feed (at_head reached) rest

pub line_first : (line : List ℕ) (lines : List (List ℕ)) (rest : List ℕ) → ended_lines (line ∷ lines) ++ rest ≡ line ++ 10 ∷ (ended_lines lines ++ rest)
line_first line lines rest = append_assoc (line ++ 10 ∷ []) (ended_lines lines) rest ∙ append_assoc line (10 ∷ []) (ended_lines lines ++ rest)

some_line : (lines : List (List ℕ)) (last : List ℕ) (more : List (List ℕ)) → (first : List ℕ) × (others : List (List ℕ)) × (lines ++ last ∷ more ≡ first ∷ others)
some_line [] last more = (last, more, refl)
some_line (line ∷ lines) last more = (line, lines ++ last ∷ more, refl)

walk : (lines : List (List ℕ)) (head : HeadSoFar) (header : Header) (next : List ℕ) (more : List (List ℕ)) (rest : List ℕ) → IsSoFar head → IsHeader header → header_lines header ≡ lines_so_far head ++ (lines ++ next ∷ more) → IsReached head lines rest
walk [] head header next more rest is header_is e = record { reached = head; is = is; lines_are = sym (append-nil (lines_so_far head)); goes = refl }
walk (line ∷ lines) head header next more rest is header_is e =
    let read = accepts head line header (lines ++ next ∷ more) is header_is e in
    by_next (λ found found_is goes. walk lines found header next more rest found_is header_is goes) read.0 read.1
  where
    by_next : ((found : HeadSoFar) → IsSoFar found → header_lines header ≡ lines_so_far found ++ (lines ++ next ∷ more) → IsReached found lines rest)
        → (found : NextLine) → next_line head line ≡ Some found → IsReached head (line ∷ lines) rest
    by_next on (Whole whole) read =
        let after = some_line lines next more in
        absurd (no_whole head line after.0 after.1 header whole is header_is (e ∙ ap (λ ls. lines_so_far head ++ line ∷ ls) after.2) read)
    by_next on (More found) read =
        let made = line_next head line (More found) is read in
        let fits = read_fits head line (More found) read in
        let back : lines_so_far found ++ (lines ++ next ∷ more) ≡ lines_so_far head ++ (line ∷ lines ++ next ∷ more) = ap (λ ls. ls ++ (lines ++ next ∷ more)) made.lines ∙ append_assoc (lines_so_far head) (line ∷ []) (lines ++ next ∷ more) in
        let later = on found made.is (e ∙ sym back) in
        record {
          reached = later.reached;
          is = later.is;
          lines_are = later.lines_are ∙ ap (λ ls. ls ++ lines) made.lines ∙ append_assoc (lines_so_far head) (line ∷ []) lines;
          goes = ap (feed (at_head head)) (line_first line lines rest) ∙ step_more head found line (ended_lines lines ++ rest) fits.0 (kept_fits head line fits ∙ read) ∙ later.goes;
        }

-- ---- a line that no header has there

-- what continues the lines is a line that is read
continues : (head : HeadSoFar) (line : List ℕ) (next : NextLine) → IsSoFar head → next_line head line ≡ Some next → GoesOnWith (lines_so_far head) line
continues head line (Whole header) is read = let made = line_next head line (Whole header) is read in (header, [], made.is, made.lines)
continues head line (More found) is read =
    let made = line_next head line (More found) is read in
    let on = goes_on found made.is in
    (on.0, on.1 ∷ on.2, on.3, on.4 ∙ ap (λ ls. ls ++ on.1 ∷ on.2) made.lines ∙ append_assoc (lines_so_far head) (line ∷ []) (on.1 ∷ on.2))

-- what is not read continues them in no header
no_line : (head : HeadSoFar) (line : List ℕ) → IsSoFar head → next_of_line head (kept line) ≡ None → GoesOnWith (lines_so_far head) line → ⊥
no_line head line is none on =
    let read = accepts head line on.0 on.1 is on.2 on.3 in
    let fits = read_fits head line read.0 read.1 in
    let same : next_of_line head (kept line) ≡ Some read.0 = kept_fits head line fits ∙ read.1 in
    absurd cc

fault_after : (head : HeadSoFar) → 0 < length (lines_so_far head) → head_fault head ≡ BadLine (length (lines_so_far head) + 1)
fault_after Nothing some = absurd (omega arith)
fault_after FirstLine some = refl
fault_after (Machine begun) some = ap BadLine (numbered_next (Machine begun))

-- a text that has such a line is refused for it
pub stuck_in_header : (text : List ℕ) (number : ℕ) → StopsInHeader text number → outcome start text ≡ Err (BadLine number)
stuck_in_header text number (lines, line, after, some, goes, whole, one, none, is) =
    let far = walk lines Nothing goes.1.0 goes.0 goes.1.1 (line ++ 10 ∷ after) tt goes.1.2 goes.1.3 in
    ap (outcome start) whole ∙ ap finished far.goes ∙ by_next far.reached far.is far.lines_are (next_of_line far.reached (kept line)) refl
  where
    by_next : (reached : HeadSoFar) → IsSoFar reached → lines_so_far reached ≡ lines → (found : Option NextLine) → next_of_line reached (kept line) ≡ found → outcome (at_head reached) (line ++ 10 ∷ after) ≡ Err (BadLine number)
    by_next reached so_far same None e =
        step_stuck reached line after one e
        ∙ ap Err (fault_after reached (rw same some) ∙ ap (λ (ls : List (List ℕ)). BadLine (length ls + 1)) same ∙ ap BadLine (sym is))
    by_next reached so_far same (Some found) e = absurd (none (subst (λ (ls : List (List ℕ)). GoesOnWith ls line) same (continues reached line found so_far (kept_is reached line found e))))

-- ---- a whole header

abbrev with_digests : Begun → List (List ℕ) → Begun
with_digests begun digests = record begun { config = record begun.config { approved = begun.config.approved ++ digests } }

through_digests : (digests : List (List ℕ)) (begun : Begun) (rest : List ℕ) → IsBegun begun → AllByRecursion IsDigest digests → length begun.config.approved + length digests ≤ begun.awaited
    → feed (at_head (Machine begun)) (ended_lines (map approved_line digests) ++ rest) ≡ feed (at_head (Machine (with_digests begun digests))) rest
through_digests [] begun rest is each few = ap (λ (ds : List (List ℕ)). feed (at_head (Machine (record begun { config = record begun.config { approved = ds } }))) rest) (sym (append-nil begun.config.approved))
through_digests (digest ∷ digests) begun rest is each few =
    let lt : length begun.config.approved < begun.awaited = omega (arith, few) in
    let fits = approved_fits digest each.0 in
    let read : next_line (Machine begun) (approved_line digest) ≡ Some (More (Machine (approving begun digest))) =
    rw (lt-leb begun.awaited (length begun.config.approved) lt, approved_again digest each.0) refl in
    let size = length-append begun.config.approved (digest ∷ []) in
    ap (feed (at_head (Machine begun))) (line_first (approved_line digest) (map approved_line digests) rest)
    ∙ step_more (Machine begun) (Machine (approving begun digest)) (approved_line digest) (ended_lines (map approved_line digests) ++ rest) fits.0 (kept_fits (Machine begun) (approved_line digest) fits ∙ read)
    ∙ through_digests digests (approving begun digest) rest (approving_is begun digest is lt each.0) each.1 (omega (arith, size, few))
    ∙ ap (λ (ds : List (List ℕ)). feed (at_head (Machine (record begun { config = record begun.config { approved = ds } }))) rest) (append_assoc begun.config.approved (digest ∷ []) digests)

through_head : (head : Head) (rest : List ℕ) → IsHead head → feed start (trace_header (Three head) ++ rest) ≡ feed (at_line (Three head) 0) rest
through_head head rest is =
    let config = head.config in
    let awaited = length config.approved in
    let few = is.config.few_digests in
    let begun : Begun = record { config = emptied config; awaited = awaited } in
    let machine = machine_fits config awaited is.config few in
    let line : List ℕ = last_line head.position head.is_host_redacted in
    let last = last_fits head.position head.is_host_redacted is.position in
    let after : List ℕ = ended_lines (line ∷ []) ++ rest in
    let read_machine : next_line FirstLine (machine_line config awaited) ≡ Some (More (Machine begun)) = ap (λ found. option_map (λ begun. More (Machine begun)) found) (machine_again config awaited is.config few) in
    let begun_is = (machine_spelled (machine_line config awaited) begun (machine_again config awaited is.config few)).2 in
    let read_last : next_line (Machine (with_digests begun config.approved)) line ≡ Some (Whole (Three head)) =
    rw (le-leb awaited (length config.approved) (omega arith), last_again head.position head.is_host_redacted is.position) refl in
    ap (feed start) (line_first (codes "kcore-trace 3") (machine_line config awaited ∷ (map approved_line config.approved ++ line ∷ [])) rest)
    ∙ step_more Nothing FirstLine (codes "kcore-trace 3") _ refl refl
    ∙ ap (feed (at_head FirstLine)) (line_first (machine_line config awaited) (map approved_line config.approved ++ line ∷ []) rest)
    ∙ step_more FirstLine (Machine begun) (machine_line config awaited) _ machine.0 (kept_fits FirstLine (machine_line config awaited) machine ∙ read_machine)
    ∙ ap (feed (at_head (Machine begun)))
    (ap (λ ls. ls ++ rest) (flat_map-append (λ (line : List ℕ). line ++ 10 ∷ []) (map approved_line config.approved) (line ∷ []))
    ∙ append_assoc (ended_lines (map approved_line config.approved)) (ended_lines (line ∷ [])) rest)
    ∙ through_digests config.approved begun after begun_is is.digests (omega arith)
    ∙ ap (feed (at_head (Machine (with_digests begun config.approved)))) (line_first line [] rest)
    ∙ step_whole (Machine (with_digests begun config.approved)) (Three head) line rest last.0 (kept_fits (Machine (with_digests begun config.approved)) line last ∙ read_last)

-- what follows a header is read as its calls
pub past_header : (header : Header) (text rest : List ℕ) → IsHeader header → text ≡ trace_header header ++ rest → feed start text ≡ feed (at_line header 0) rest
past_header One text rest is e = ap (feed start) (e ∙ line_first (codes "kcore-trace 1") [] rest) ∙ step_whole Nothing One (codes "kcore-trace 1") rest refl refl
past_header Two text rest is e = ap (feed start) (e ∙ line_first (codes "kcore-trace 2") [] rest) ∙ step_whole Nothing Two (codes "kcore-trace 2") rest refl refl
past_header (Three head) text rest is e = ap (feed start) e ∙ through_head head rest is

-- ---- any text

-- after what was read of a header the text has the rest of one, or ends before that, or has a line that no header has
-- there
abbrev pub HeaderCases : HeadSoFar → List ℕ → Type 0
HeaderCases head text =
    ((header : Header) × (rest : List ℕ) × IsHeader header × (ended_lines (lines_so_far head) ++ text ≡ trace_header header ++ rest) × (feed (at_head head) text ≡ feed (at_line header 0) rest))
    ⊎ ((outcome (at_head head) text ≡ Err NoHeader) ⊎ ((number : ℕ) × StopsInHeader (ended_lines (lines_so_far head) ++ text) number × (outcome (at_head head) text ≡ Err (BadLine number))))

open_header : (head : HeadSoFar) (line : List ℕ) → IsOneLine line → outcome (at_head head) line ≡ Err NoHeader
open_header head [] one = rw (feed_nothing (at_head head)) refl
open_header head (byte ∷ line) one = rw (feed_begun (at_head head) (byte ∷ line) (omega arith) one) (by_test (may_begin head (kept (byte ∷ line))))
  where
    by_test : (b : Bool) → (cond b (Ok (longer (at_head head) (byte ∷ line), [])) (Err NoHeader) >>= λ (all : Progress × List Call). ended all.0.header all.0.line >>= λ end. Ok all.1) ≡ Err NoHeader
    by_test true = refl
    by_test false = refl

pub ended_more : (lines : List (List ℕ)) (line rest : List ℕ) → ended_lines (lines ++ line ∷ []) ++ rest ≡ ended_lines lines ++ (line ++ 10 ∷ rest)
ended_more lines line rest =
    ap (λ bytes. bytes ++ rest) (flat_map-append (λ (l : List ℕ). l ++ 10 ∷ []) lines (line ∷ []))
    ∙ append_assoc (ended_lines lines) (ended_lines (line ∷ [])) rest ∙ ap (λ bytes. ended_lines lines ++ bytes) (line_first line [] rest)

at_newline : (head : HeadSoFar) (line bytes : List ℕ) (found : Option NextLine) → IsSoFar head → IsOneLine line → next_of_line head (kept line) ≡ found
    → ((next : HeadSoFar) → IsSoFar next → HeaderCases next bytes) → HeaderCases head (line ++ 10 ∷ bytes)
at_newline Nothing line bytes None is one e later = inr (inl (step_stuck Nothing line bytes one e))
at_newline FirstLine line bytes None is one e later =
    let on = goes_on FirstLine is in
    inr (inr (2, (lines_so_far FirstLine, line, bytes, omega arith, (on.1, (on.0, on.2, on.3, on.4)), refl, one, no_line FirstLine line is e, refl), step_stuck FirstLine line bytes one e))
at_newline (Machine begun) line bytes None is one e later =
    let on = goes_on (Machine begun) is in
    inr (inr (length (lines_so_far (Machine begun)) + 1, (lines_so_far (Machine begun), line, bytes, omega arith, (on.1, (on.0, on.2, on.3, on.4)), refl, one, no_line (Machine begun) line is e, refl), step_stuck (Machine begun) line bytes one e ∙ ap Err (fault_after (Machine begun) (omega arith))))
at_newline head line bytes (Some (Whole header)) is one e later =
    let made = line_next head line (Whole header) is (kept_is head line (Whole header) e) in
    inl (header, bytes, made.is, sym (ended_more (lines_so_far head) line bytes) ∙ ap (λ ls. ended_lines ls ++ bytes) (sym made.lines), step_whole head header line bytes one e)
at_newline head line bytes (Some (More next)) is one e later =
    let made = line_next head line (More next) is (kept_is head line (More next) e) in
    let same : ended_lines (lines_so_far next) ++ bytes ≡ ended_lines (lines_so_far head) ++ (line ++ 10 ∷ bytes) = ap (λ ls. ended_lines ls ++ bytes) made.lines ∙ ended_more (lines_so_far head) line bytes in
    let step = step_more head next line bytes one e in
    elim (later next made.is) [
      | inl (header, rest, header_is, whole, goes) ↦ inl (header, rest, header_is, sym same ∙ whole, step ∙ goes)
      | inr (inl ends) ↦ inr (inl (ap finished step ∙ ends))
      | inr (inr (number, stops, goes)) ↦ inr (inr (number, subst (λ (text : List ℕ). StopsInHeader text number) same stops, ap finished step ∙ goes))
    ]

pub through_header : (bytes line : List ℕ) (head : HeadSoFar) → IsSoFar head → IsOneLine line → HeaderCases head (line ++ bytes)
through_header [] line head is one = rw (append-nil line) (inr (inl (open_header head line one)))
through_header (byte ∷ bytes) line head is one = elim (cases_Bool (byte == 10)) [
  | inl newline ↦ rw (eqb-true byte 10 newline) (at_newline head line bytes (next_of_line head (kept line)) is one refl (λ next next_is. through_header bytes [] next next_is refl))
  | inr other ↦ rw append_assoc at (through_header bytes (line ++ byte ∷ []) head is (one_line_pushed line byte one other))
]
