-- A trace that is read one part at a time.
use Rattle.std.specs.Prelude.{ℕ, ◌≡◌, ◌≤◌, ◌++◌, List, [], length, Option, Some, None, Result, Ok, Err}
use Rattle.std.specs.Io.KnownBytes.{Consumes}
use Rattle.kc_types.specs.Limits.{call_limit}
use Rattle.kc_types.specs.declared.call.Call.{Call}
use Rattle.kc_trace.specs.declared.fault.TraceFault.{TraceFault}
use Rattle.kc_texts.specs.declared.whole.ReadFault.{ReadFault}
use Rattle.kc_texts.specs.declared.whole.ReadFault.TheVariants as reads
use Rattle.kc_texts.specs.declared.stream.StreamFault.{StreamFault}
use Rattle.kc_texts.specs.declared.stream.StreamFault.TheVariants as streams
use Rattle.kc_trace.specs.Machine.{Progress, Reader, start, feed}

-- the fault that a fault of the source is
abbrev pub stream_fault : ReadFault → StreamFault
stream_fault reads.Memory = streams.Memory
stream_fault reads.Read = streams.Read

-- the reader of the trace, and how many bytes it was fed
pub record Streamed : Type 0 where
  pub reader : Reader
  pub total : ℕ

-- what reading the bytes so far returns
abbrev pub answer : Option TraceFault → Progress → List Call → Result (Progress × List Call) TraceFault
answer None progress calls = Ok (progress, calls)
answer (Some fault) progress calls = Err fault

-- the stream was fed these bytes of a source, which first had this much left and has this much left now, and these
-- calls came
pub record HasRead (stream : Streamed) (bytes : List ℕ) (calls : List Call) (first now : Option (List ℕ)) : Type 0 where
  pub so_far : feed start bytes ≡ answer stream.reader.fault stream.reader.progress calls
  pub consumed : Consumes first now bytes
  pub many : length bytes ≡ stream.total
  pub few : length calls ≤ call_limit
  -- there are no calls before the header
  pub headless : stream.reader.progress.header ≡ None → calls ≡ []

-- whatever was read before, the next calls are these
abbrev pub GoesOn : Streamed → Streamed → Option (List ℕ) → Option (List ℕ) → List Call → Type 0
GoesOn before after left now more =
    (bytes : List ℕ) (calls : List Call) (first : Option (List ℕ)) → HasRead before bytes calls first left → (piece : List ℕ) × HasRead after (bytes ++ piece) (calls ++ more) first now
