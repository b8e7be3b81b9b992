-- Reading a trace line by line; the first lines are its header.
use Rattle.std.specs.Prelude.{◌+◌, ◌==◌, ◌||◌, not, codes, Bool, false, nat_le, ℕ, List, [], ◌∷◌, ◌++◌, length, Option, Some, None, if◌then◌else◌, Result, Ok, Err, ◌≡◌}
use Rattle.std.specs.List.{starts_with}
use Rattle.kc_trace.specs.declared.header.Header.{Header}
use Rattle.kc_trace.specs.declared.head_reader.HeadSoFar.{HeadSoFar}
use Rattle.kc_trace.specs.declared.head_reader.HeadSoFar.TheVariants.{Nothing}
use Rattle.kc_trace.specs.declared.head_reader.NextLine.{NextLine}
use Rattle.kc_trace.specs.declared.head_reader.NextLine.TheVariants.{More, Whole}
use Rattle.kc_types.specs.declared.call.Call.{Call}
use Rattle.kc_trace.specs.declared.fault.TraceFault.{TraceFault}
use Rattle.kc_trace.specs.declared.fault.TraceFault.TheVariants.{NoHeader, BadLine, NoNewline, TooManyCalls, Misplaced, Memory}
use Rattle.kc_types.specs.Limits.{call_limit, line_limit}
use Rattle.kc_trace.specs.Header.{first_call_line}
use Rattle.kc_trace.specs.HeadReading.{next_line, next_number, is_nothing}
use Rattle.kc_trace.specs.Spelling.{is_allowed_in}
use Rattle.kc_trace.specs.Reading.{call_of}

-- what `?` is in code
infixl 10 ◌>>=◌
abbrev pub ◌>>=◌ : {A B : Type 0} → Result A TraceFault → (A → Result B TraceFault) → Result B TraceFault
(Ok x) >>= f = f x
(Err e) >>= f = Err e

-- the definition gives this fault, unless memory ran out
abbrev pub Fails : {Y : Type 0} → TraceFault → Result Y TraceFault → Type 0
Fails Memory read = Unit {0}
Fails NoHeader read = read ≡ Err NoHeader
Fails (BadLine n) read = read ≡ Err (BadLine n)
Fails NoNewline read = read ≡ Err NoNewline
Fails TooManyCalls read = read ≡ Err TooManyCalls
Fails (Misplaced wrong) read = read ≡ Err (Misplaced wrong)

-- what a function returned, seen by view, is what the definition gives, unless memory ran out
abbrev pub Gives : {X Y : Type 0} → (X → Y) → Result X TraceFault → Result Y TraceFault → Type 0
Gives view (Ok x) read = read ≡ Ok (view x)
Gives view (Err e) read = Fails e read

-- how far a trace has been read: its header, once all of that was read, and what was read of it before; how many calls
-- there were, and the line begun, or nothing if it is longer than any call
pub record Progress : Type 0 where
  pub header : Option Header
  pub head : HeadSoFar
  pub calls : ℕ
  pub line : Option (List ℕ)

-- before the header
abbrev pub start : Progress
start = record { header = None; head = Nothing; calls = 0; line = Some [] }

-- a line, or nothing if it is longer than any call
abbrev pub kept : List ℕ → Option (List ℕ)
kept line = if nat_le (length line) line_limit then Some line else None

-- the line begun with more bytes
abbrev pub longer_line : Option (List ℕ) → List ℕ → Option (List ℕ)
longer_line None bytes = None
longer_line (Some line) bytes = kept (line ++ bytes)

-- with more bytes of its line
abbrev pub longer : Progress → List ℕ → Progress
longer progress bytes = record progress { line = longer_line progress.line bytes }

-- what a line makes of a header, if it may come there
abbrev pub next_of_line : HeadSoFar → Option (List ℕ) → Option NextLine
next_of_line head None = None
next_of_line head (Some line) = next_line head line

-- whether the first line of a header begins with the line
abbrev pub begins_first_line : Option (List ℕ) → Bool
begins_first_line None = false
begins_first_line (Some line) =
    starts_with ◌==◌ (codes "kcore-trace 1") line || starts_with ◌==◌ (codes "kcore-trace 2") line || starts_with ◌==◌ (codes "kcore-trace 3") line

-- whether a line that has begun like this may come after what was read of a header: a line after the first is judged
-- when it has ended
abbrev pub may_begin : HeadSoFar → Option (List ℕ) → Bool
may_begin head line = not (is_nothing head) || begins_first_line line

-- the call, if a trace with this header may have it
abbrev pub standing : Header → Option Call → Option Call
standing header None = None
standing header (Some call) = if is_allowed_in header call then Some call else None

-- the call that a line is, if it is one
abbrev pub call_of_kept : Option (List ℕ) → Option Call
call_of_kept None = None
call_of_kept (Some line) = call_of line

-- the same, if it may be there
abbrev pub call_in : Header → Option (List ℕ) → Option Call
call_in header line = standing header (call_of_kept line)

-- after the newline of a line that is this call, or is not a call
abbrev pub after_line : Header → Progress → Option Call → Result (Progress × List Call) TraceFault
after_line header progress None = Err (BadLine (progress.calls + first_call_line header))
after_line header progress (Some call) = Ok (record progress { calls = progress.calls + 1; line = Some [] }, call ∷ [])

-- a line that has begun like this and not ended: no header begins so, or there are as many calls as may be
abbrev pub begun_by : Option Header → Progress → Result (Progress × List Call) TraceFault
begun_by None progress = if may_begin progress.head progress.line then Ok (progress, []) else Err NoHeader
begun_by (Some header) progress = if nat_le call_limit progress.calls then Err TooManyCalls else Ok (progress, [])

abbrev pub begun : Progress → Result (Progress × List Call) TraceFault
begun progress = begun_by progress.header progress

-- what is wrong with a line that may not come there
abbrev pub head_fault : HeadSoFar → TraceFault
head_fault head = if is_nothing head then NoHeader else BadLine (next_number head)

-- after the newline of a line of the header, or of one that may not come there
abbrev pub after_header : Progress → Option NextLine → Result (Progress × List Call) TraceFault
after_header progress None = Err (head_fault progress.head)
after_header progress (Some (More head)) = Ok (record progress { head = head; line = Some [] }, [])
after_header progress (Some (Whole header)) = Ok (record progress { header = Some header; head = Nothing; line = Some [] }, [])

-- after the newline of the line begun: one of the header, or a call's
abbrev pub line_ended_by : Option Header → Progress → Result (Progress × List Call) TraceFault
line_ended_by None progress = after_header progress (next_of_line progress.head progress.line)
line_ended_by (Some header) progress = if nat_le call_limit progress.calls then Err TooManyCalls else after_line header progress (call_in header progress.line)

abbrev pub line_ended : Progress → Result (Progress × List Call) TraceFault
line_ended progress = line_ended_by progress.header progress

-- how far it is after one more byte, and the call whose line it ends
abbrev pub fed_byte : Progress → ℕ → Result (Progress × List Call) TraceFault
fed_byte progress byte = if byte == 10 then line_ended (longer progress []) else begun (longer progress (byte ∷ []))

-- how far it is after a piece, and the calls whose lines the piece ends
unfoldable pub feed : Progress → List ℕ → Result (Progress × List Call) TraceFault
feed progress [] = Ok (progress, [])
feed progress (byte ∷ bytes) = do
  first ← fed_byte progress byte
  others ← feed first.0 bytes
  Ok (others.0, first.1 ++ others.1)

-- what is read after some calls, and these calls
abbrev pub with_front : List Call → Result (Progress × List Call) TraceFault → Result (Progress × List Call) TraceFault
with_front front read = do
  others ← read
  Ok (others.0, front ++ others.1)

abbrev pub nothing_begun : Option (List ℕ) → Result (Unit {0}) TraceFault
nothing_begun None = Err NoNewline
nothing_begun (Some []) = Ok tt
nothing_begun (Some (byte ∷ bytes)) = Err NoNewline

-- the header, if the text may end there
abbrev pub ended : Option Header → Option (List ℕ) → Result Header TraceFault
ended None line = Err NoHeader
ended (Some header) line = nothing_begun line >>= λ end. Ok header

-- what a whole text is read as
unfoldable pub reading : List ℕ → Result (List Call) TraceFault
reading text = do
  all ← feed start text
  end ← ended all.0.header all.0.line
  Ok all.1

-- a reader: how far it has read, and the fault that it met
pub record Reader : Type 0 where
  pub progress : Progress
  pub fault : Option TraceFault

abbrev pub fed_after : Option TraceFault → Progress → List ℕ → Result (Progress × List Call) TraceFault
fed_after None progress piece = feed progress piece
fed_after (Some fault) progress piece = Err fault

-- what a reader returns for a piece
abbrev pub fed : Reader → List ℕ → Result (Progress × List Call) TraceFault
fed reader piece = fed_after reader.fault reader.progress piece

-- the results for pieces in turn, joined
unfoldable pub feed_each : Progress → List (List ℕ) → Result (Progress × List Call) TraceFault
feed_each progress [] = Ok (progress, [])
feed_each progress (piece ∷ pieces) = do
  first ← feed progress piece
  others ← feed_each first.0 pieces
  Ok (others.0, first.1 ++ others.1)
