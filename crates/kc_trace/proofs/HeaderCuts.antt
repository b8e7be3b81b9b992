-- What is left of a header after some of its lines.
use Rattle.std.proofs.Common.{◌≡◌, ℕ, List, [], ◌∷◌, ◌++◌, length, Some, refl, sym, ap, ◌∙◌, arith, append_assoc, append-nil}
use Rattle.std.specs.Prelude.{codes}
use Rattle.std.proofs.lemmas.List.{length-map}
use Rattle.kc_lines.specs.Lines.{IsOneLine}
use Rattle.kc_trace.specs.declared.header.Header.{Header}
use Rattle.kc_trace.specs.declared.header.Header.TheVariants.{One, Two, Three}
use Rattle.kc_trace.specs.declared.head_reader.HeadSoFar.{HeadSoFar}
use Rattle.kc_trace.specs.declared.head_reader.HeadSoFar.TheVariants.{Nothing, FirstLine, Machine}
use Rattle.kc_trace.specs.declared.head_reader.NextLine.{NextLine}
use Rattle.kc_trace.specs.declared.head_reader.NextLine.TheVariants.{More, Whole}
use Rattle.kc_trace.specs.Header.{IsHeader, approved_line, header_lines, ended_lines}
use Rattle.kc_trace.specs.HeadReading.{first_line_read, next_line}
use Rattle.kc_trace.proofs.Newlines.{cut-same, no-newline}
use Rattle.kc_trace.proofs.HeadStages.{lines_so_far, IsSoFar, IsMore, line_next, accepts, many_lines}
use Rattle.kc_trace.proofs.Headers.{read_fits, line_first}

-- the bytes go on with the other lines of this header, and these bytes come after it
pub record GoesOnAs (head : HeadSoFar) (bytes : List ℕ) (header : Header) (after : List ℕ) : Type 0 where
  pub line : List ℕ
  pub more : List (List ℕ)
  pub lines : header_lines header ≡ lines_so_far head ++ line ∷ more
  pub bytes_are : bytes ≡ ended_lines (line ∷ more) ++ after

-- a text that is a header goes on with its first line
pub goes_on_whole : (header : Header) (bytes after : List ℕ) → bytes ≡ ended_lines (header_lines header) ++ after → GoesOnAs Nothing bytes header after
goes_on_whole header bytes after e = record { line = _; more = _; lines = refl; bytes_are = e }

-- the bytes have a first line
pub has_line : (head : HeadSoFar) (bytes : List ℕ) (header : Header) (after : List ℕ) → GoesOnAs head bytes header after → IsOneLine bytes → ⊥
has_line head bytes header after on one = no-newline on.line (ended_lines on.more ++ after) bytes one (on.bytes_are ∙ line_first on.line on.more after)

-- the first line of the bytes is read as the next of the header
pub record IsRead (head : HeadSoFar) (line rest : List ℕ) (header : Header) (after : List ℕ) : Type 0 where
  pub more : List (List ℕ)
  pub lines : header_lines header ≡ lines_so_far head ++ line ∷ more
  pub rest_is : rest ≡ ended_lines more ++ after
  pub next : NextLine
  pub read : next_line head line ≡ Some next

pub is_read : (head : HeadSoFar) (bytes line rest : List ℕ) (header : Header) (after : List ℕ) → IsSoFar head → IsHeader header → GoesOnAs head bytes header after → IsOneLine line → bytes ≡ line ++ 10 ∷ rest → IsRead head line rest header after
is_read head bytes line rest header after is header_is on one cut =
    let found = accepts head on.line header on.more is header_is on.lines in
    let fits = read_fits head on.line found.0 found.1 in
    let same = cut-same line on.line rest (ended_lines on.more ++ after) one fits.0 (sym cut ∙ on.bytes_are ∙ line_first on.line on.more after) in
    record {
      more = on.more;
      lines = on.lines ∙ ap (λ l. lines_so_far head ++ l ∷ on.more) (sym same.0);
      rest_is = same.1;
      next = found.0;
      read = ap (next_line head) same.0 ∙ found.1;
    }

abbrev first_of : List (List ℕ) → List ℕ
first_of [] = []
first_of (line ∷ lines) = line

-- the first line of a trace with a head is no whole header
no_first : (line : List ℕ) (header : Header) → first_line_read line ≡ Some (Whole header) → line ≡ codes "kcore-trace 3" → ⊥
no_first line header whole same =
    let both : Some (Whole header) ≡ Some (More FirstLine) = sym whole ∙ ap first_line_read same in
    absurd cc

-- what was read so far is no whole header
unfinished : (head : HeadSoFar) (header : Header) → IsSoFar head → IsHeader header → header_lines header ≡ lines_so_far head → ⊥
unfinished Nothing One is header_is e = absurd cc
unfinished Nothing Two is header_is e = absurd cc
unfinished Nothing (Three head) is header_is e = absurd cc
unfinished FirstLine One is header_is e = absurd (no_first (codes "kcore-trace 1") One refl (ap first_of e))
unfinished FirstLine Two is header_is e = absurd (no_first (codes "kcore-trace 2") Two refl (ap first_of e))
unfinished FirstLine (Three head) is header_is e = absurd cc
unfinished (Machine begun) header is header_is e =
    let size = many_lines begun header [] is header_is (e ∙ sym (append-nil (lines_so_far (Machine begun)))) in
    let within = is.within in
    absurd (omega (arith, size, within, ap length e, length-map begun.config.approved approved_line))

-- and after a line that is read as one of several the bytes go on
pub goes_on_after : (head next : HeadSoFar) (line rest : List ℕ) (header : Header) (after : List ℕ) → IsSoFar head → IsHeader header → IsRead head line rest header after → next_line head line ≡ Some (More next) → GoesOnAs next rest header after
goes_on_after head next line rest header after is header_is found read = by_more found.more found.lines found.rest_is
  where
    made : IsMore head next line
    made = line_next head line (More next) is read

    by_more : (more : List (List ℕ)) → header_lines header ≡ lines_so_far head ++ line ∷ more → rest ≡ ended_lines more ++ after → GoesOnAs next rest header after
    by_more [] lines rest_is = absurd (unfinished next header made.is header_is (lines ∙ sym made.lines))
    by_more (first ∷ others) lines rest_is = record {
      line = first;
      more = others;
      lines = lines ∙ sym (append_assoc (lines_so_far head) (line ∷ []) (first ∷ others)) ∙ ap (λ ls. ls ++ first ∷ others) (sym made.lines);
      bytes_are = rest_is;
    }
