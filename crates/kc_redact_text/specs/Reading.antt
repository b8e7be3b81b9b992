-- How far a trace that is redacted has been read.
use Rattle.std.specs.Prelude.{◌≡◌, ◌≢◌, ℕ, List, ◌++◌, Option, Result, Ok}
use Rattle.std.specs.Io.KnownBytes.{Consumes}
use Rattle.kc_types.specs.declared.call.Call.{Call}
use Rattle.kc_model.specs.State.{State}
use Rattle.kc_trace.specs.declared.header.Header.{Header}
use Rattle.kc_trace.specs.Trace.{IsTraceUnder}
use Rattle.kc_trace.specs.Machine.{Progress}
use Rattle.kc_trace.specs.declared.fault.TraceFault.{TraceFault}
use Rattle.kc_trace.specs.declared.fault.TraceFault.TheVariants as traces
use Rattle.kc_texts.specs.Streamed.{Streamed, GoesOn}
use Rattle.kc_faults.specs.declared.fault.TextFault.{TextFault}
use Rattle.kc_faults.specs.declared.fault.TextFault.TheVariants as texts
use Rattle.kc_remarks.specs.declared.denials.Denials.{Denials}
use Rattle.kc_remarks.specs.Denials.{AreCounts}
use Rattle.kc_redact_text.specs.Made.{redacted_by, core_after, replies_by, CountsMore}
use Rattle.kc_redact_text.specs.declared.reading.Redacting.{Redacting}

-- calls that are redacted as others are; the core, if there is one, answers both alike, and is in the same state after
-- both
pub record AreAsGood (core : Option State) (calls others : List Call) : Type 0 where
  pub redacted : redacted_by core calls ≡ redacted_by core others
  pub made : core_after core calls ≡ core_after core others
  pub replies : replies_by core calls ≡ replies_by core others

-- the calls are as good as those that the reader is to return, and this is how far it has read
abbrev pub AreRead : Option State → Result (Progress × List Call) TraceFault → Progress → List Call → Type 0
AreRead core read progress calls = (whole : List Call) × (read ≡ Ok (progress, whole)) × AreAsGood core calls whole

-- the reader of the trace, and the number of bytes that it was fed
abbrev pub stream_of : Redacting → Streamed
stream_of r = record { reader = r.reader; total = r.total }

-- whatever was read before, some calls came after it, and are kept redacted; they were made on the core, if there is
-- one, and its replies were counted
abbrev pub HasGoneOn : Option State → Option State → Redacting → Redacting → Option (List ℕ) → Option (List ℕ) → Type 0
HasGoneOn core made before after left now =
    (more : List Call) × (after.calls.items ≡ before.calls.items ++ redacted_by core more) × GoesOn (stream_of before) (stream_of after) left now more × (made ≡ core_after core more)
    × CountsMore (replies_by core more) before.denials after.denials

-- the same for these bytes of any source
abbrev pub HasTaken : Option State → Option State → Redacting → Redacting → List ℕ → Type 0
HasTaken core made before after piece = (left now : Option (List ℕ)) → Consumes left now piece → HasGoneOn core made before after left now

-- the text is a trace with this header, and these are its calls, redacted as they were made on this core, if there is
-- one, whose replies have these counts
pub record IsHeaderAndCalls (core : Option State) (text : List ℕ) (header : Header) (kept : List Call) (denials : Denials) : Type 0 where
  pub calls : List Call
  pub read : IsTraceUnder header text calls
  pub redacted : kept ≡ redacted_by core calls
  pub counted : AreCounts (replies_by core calls) denials

-- the trace is refused, and running out of memory is never reported as that; or memory ran out, or the source failed
abbrev pub IsReadingFault : TextFault → Type 0
IsReadingFault (texts.Trace fault) = fault ≢ traces.Memory
IsReadingFault texts.Memory = Unit {0}
IsReadingFault texts.Read = Unit {0}
IsReadingFault _ = ⊥
