-- Which text is which list of calls, and why a text is not a trace.
use Rattle.std.specs.Prelude.{◌≡◌, ◌⊎◌, ◌+◌, ◌<◌, ◌≤◌, true, ℕ, List, ◌∷◌, ◌++◌, length}
use Rattle.std.specs.List.{AllByRecursion}
use Rattle.kc_types.specs.Limits.{call_limit}
use Rattle.kc_trace.specs.declared.header.Header.{Header}
use Rattle.kc_types.specs.declared.call.Call.{Call}
use Rattle.kc_model.specs.Ranged.{IsRanged}
use Rattle.kc_lines.specs.Lines.{IsOneLine}
use Rattle.kc_trace.specs.declared.fault.TraceFault.{TraceFault}
use Rattle.kc_trace.specs.declared.fault.TraceFault.TheVariants.{NoHeader, BadLine, NoNewline, TooManyCalls, Misplaced, Memory}
use Rattle.kc_trace.specs.Header.{IsHeader, header_lines, ended_lines, trace_header, first_call_line}
use Rattle.kc_trace.specs.Spelling.{line_of, lines_of, text_of, is_allowed_in}

-- a call that a trace with this header may have: its numbers and bytes are in range
abbrev pub IsCallOf : Header → Call → Type 0
IsCallOf header call = IsRanged call × (is_allowed_in header call ≡ true)

abbrev pub AreCalls : Header → List Call → Type 0
AreCalls header calls = AllByRecursion (IsCallOf header) calls

-- what follows this many calls is not another call, for this reason
abbrev pub StopsAt : Header → ℕ → List ℕ → TraceFault → Type 0
StopsAt header before rest TooManyCalls = (before ≡ call_limit) × (0 < length rest)
StopsAt header before rest NoNewline = (before < call_limit) × (0 < length rest) × IsOneLine rest
StopsAt header before rest (BadLine number) = (before < call_limit) × (number ≡ before + first_call_line header)
    × ((line : List ℕ) × (after : List ℕ) × (rest ≡ line ++ 10 ∷ after) × IsOneLine line × ((call : Call) → IsCallOf header call → line ≡ line_of call → ⊥))
StopsAt header before rest NoHeader = ⊥
StopsAt header before rest (Misplaced wrong) = ⊥
StopsAt header before rest Memory = ⊥

-- the text is this list of calls after this header
pub record IsTraceUnder (header : Header) (text : List ℕ) (calls : List Call) : Type 0 where
  pub valid : IsHeader header
  pub whole : text ≡ text_of header calls
  pub each : AreCalls header calls
  pub few : length calls ≤ call_limit

-- the text is this list of calls
abbrev pub IsTrace : List ℕ → List Call → Type 0
IsTrace text calls = (header : Header) × IsTraceUnder header text calls

-- after its header and some calls the text has no further call, for this reason
abbrev pub Stops : List ℕ → TraceFault → Type 0
Stops text fault =
    (header : Header) × (calls : List Call) × (rest : List ℕ) × IsHeader header × (text ≡ trace_header header ++ (lines_of calls ++ rest)) × AreCalls header calls × StopsAt header (length calls) rest fault

-- a header has this line after these
abbrev pub GoesOnWith : List (List ℕ) → List ℕ → Type 0
GoesOnWith lines line = (header : Header) × (more : List (List ℕ)) × IsHeader header × (header_lines header ≡ lines ++ line ∷ more)

-- the text begins with some lines of a header that has more, and its next line is one that no header has there; this is
-- its number, counted from 1
abbrev pub StopsInHeader : List ℕ → ℕ → Type 0
StopsInHeader text number =
    (lines : List (List ℕ)) × (line : List ℕ) × (after : List ℕ) × (0 < length lines) × ((next : List ℕ) × GoesOnWith lines next) × (text ≡ ended_lines lines ++ (line ++ 10 ∷ after)) × IsOneLine line
    × (GoesOnWith lines line → ⊥) × (number ≡ length lines + 1)

-- the text does not begin with a whole header, and no line is wrong after the lines of a header
pub record LacksHeader (text : List ℕ) : Type 0 where
  pub none : (header : Header) (rest : List ℕ) → IsHeader header → text ≡ trace_header header ++ rest → ⊥
  pub line : (number : ℕ) → StopsInHeader text number → ⊥

-- the text is not a trace, and this is the first reason
abbrev pub IsRefused : List ℕ → TraceFault → Type 0
IsRefused text NoHeader = LacksHeader text
IsRefused text (BadLine number) = StopsInHeader text number ⊎ Stops text (BadLine number)
IsRefused text NoNewline = Stops text NoNewline
IsRefused text TooManyCalls = Stops text TooManyCalls
IsRefused text (Misplaced wrong) = ⊥
IsRefused text Memory = Unit {0}
