-- A trace that has no head is given one.
use Rattle.std.specs.Prelude.{◌≡◌, ◌≢◌, if◌then◌else◌, false, ℕ, List, ◌++◌, take, Option, Some, None, Result, Ok, Err, IfSome}
use Rattle.std.specs.Io.KnownBytes.{Appends, IsAtEnd}
use Rattle.kc_types.specs.declared.call.Call.{Call}
use Rattle.kc_trace.specs.declared.header.Head.{Head}
use Rattle.kc_trace.specs.declared.header.Header.{Header}
use Rattle.kc_trace.specs.declared.header.Header.TheVariants.{Three}
use Rattle.kc_trace.specs.declared.header.Position.TheVariants as position
use Rattle.kc_trace.specs.declared.expected.HeaderFault.{HeaderFault}
use Rattle.kc_trace.specs.declared.expected.HeaderFault.TheVariants as headers
use Rattle.kc_trace.specs.declared.fault.TraceFault.{TraceFault}
use Rattle.kc_trace.specs.declared.fault.TraceFault.TheVariants as traces
use Rattle.kc_trace.specs.Header.{IsHead, has_head, trace_header}
use Rattle.kc_trace.specs.Expected.{position_after, MayHave}
use Rattle.kc_trace.specs.Spelling.{lines_of}
use Rattle.kc_trace.specs.Trace.{IsTraceUnder, IsRefused}
use Rattle.kc_texts.specs.Ends.{Seen}
use Rattle.kc_texts.specs.Written.{Writes}
use Rattle.kc_faults.specs.Origins.{SpellsMachine}
use Rattle.kc_faults.specs.declared.fault.TextFault.{TextFault}
use Rattle.kc_faults.specs.declared.fault.TextFault.TheVariants as texts
use Rattle.kc_cli.specs.Traced.{Traced, position_next, expected_next}
use Rattle.kc_redact_text.specs.declared.convert.Converted.{Converted}
use Rattle.kc_redact_text.specs.declared.convert.Converted.TheVariants.{Written, VolumeRefused, TraceRefused}

-- ---- the head

-- a head that a trace may have, of the first volume on the machine that the text spells
pub record IsFirstHead (text : List ℕ) (head : Head) : Type 0 where
  pub machine : SpellsMachine text head.config
  pub first : head.position ≡ position.First
  pub whole : head.is_host_redacted ≡ false
  pub valid : IsHead head

-- a trace with this head
abbrev pub volume_of : Head → List Call → Traced
volume_of head calls = record { header = Three head; calls = calls }

-- a head that a trace may have, for the volume after the one that the text is: of the same machine, with the next
-- number, and with the digest of the redacted text; it is the one that is expected there
pub record IsHeadAfter (text : List ℕ) (head : Head) : Type 0 where
  pub last : Head
  pub calls : List Call
  pub read : IsTraceUnder (Three last) text calls
  pub machine : head.config ≡ last.config
  pub place : position_next (volume_of last calls) ≡ Some head.position
  pub whole : head.is_host_redacted ≡ false
  pub valid : IsHead head
  pub follows : MayHave last.config (expected_next (volume_of last calls)) (Three head)

-- the same by the header of the volume before, and the digest of its redacted text
abbrev pub IsNextOf : Header → List ℕ → Head → Type 0
IsNextOf (Three last) digest head = (head.config ≡ last.config) × (position_after (Three last) (Some digest) ≡ Some head.position) × (head.is_host_redacted ≡ false)
IsNextOf header digest head = ⊥

-- ---- the trace

-- the text is a trace of these calls without a head
abbrev pub IsBare : List ℕ → List Call → Type 0
IsBare text calls = (header : Header) × (has_head header ≡ false) × IsTraceUnder header text calls

-- the text is a trace without a head, and the other text is the trace of the same calls with this head
abbrev pub IsUnderHead : Head → List ℕ → List ℕ → Type 0
IsUnderHead head text other = (calls : List Call) × IsBare text calls × IsTraceUnder (Three head) other calls

-- the same with the head of the first volume on the machine that the first text spells
abbrev pub IsFirstVolume : List ℕ → List ℕ → List ℕ → Type 0
IsFirstVolume config_text text other = (head : Head) × IsFirstHead config_text head × IsUnderHead head text other

-- the same with the head of the volume after the one that the first text is
abbrev pub IsNextVolume : List ℕ → List ℕ → List ℕ → Type 0
IsNextVolume before text other = (head : Head) × IsHeadAfter before head × IsUnderHead head text other

-- the lines of the calls of a trace without a head
abbrev pub AreLines : List ℕ → List ℕ → Type 0
AreLines text lines = (calls : List Call) × IsBare text calls × (lines ≡ lines_of calls)

-- the sink took these lines, or this many bytes, after a header with this head
abbrev pub TookUnder : Head → Option (List ℕ) → Option (List ℕ) → Option (List ℕ) → Type 0
TookUnder head None old new = Unit {0}
TookUnder head (Some text) old new = (lines : List ℕ) × AreLines text lines × Appends old new (trace_header (Three head) ++ lines)

abbrev pub BegunUnder : Head → Option (List ℕ) → Option (List ℕ) → Option (List ℕ) → Type 0
BegunUnder head None old new = Unit {0}
BegunUnder head (Some text) old new = (lines : List ℕ) × (n : ℕ) × AreLines text lines × Appends old new (take n (trace_header (Three head) ++ lines))

-- ---- what is refused

-- the text is not a trace without a head, and this is the first reason
abbrev pub IsRefusedBare : List ℕ → TraceFault → Type 0
IsRefusedBare text (traces.Misplaced wrong) = (wrong ≡ headers.Unexpected) × ((head : Head) × (calls : List Call) × IsTraceUnder (Three head) text calls)
IsRefusedBare text fault = IsRefused text fault

-- why no volume comes after a trace with this header: it has no head, or it lacks bytes that the host wrote, so that its
-- digest is not the one in the next head, or it has the last number of 32 bits
abbrev pub why_last : Header → HeaderFault
why_last (Three head) = if head.is_host_redacted then headers.Digest else headers.Number
why_last header = headers.Missing

-- the text is a trace that no volume comes after, for this reason
abbrev pub IsLast : List ℕ → HeaderFault → Type 0
IsLast text wrong =
    (header : Header) × (calls : List Call) × IsTraceUnder header text calls × (position_next (record { header = header; calls = calls }) ≡ None) × (wrong ≡ why_last header)

-- no volume comes after the text, and this is the first reason
abbrev pub IsRefusedLast : List ℕ → TraceFault → Type 0
IsRefusedLast text (traces.Misplaced wrong) = IsLast text wrong
IsRefusedLast text fault = IsRefused text fault

-- ---- how it ends

-- the trace is refused, and running out of memory is never reported as that; or memory ran out
abbrev pub IsTextFault : TextFault → Type 0
IsTextFault (texts.Trace fault) = fault ≢ traces.Memory
IsTextFault texts.Memory = Unit {0}
IsTextFault _ = ⊥

-- memory ran out, or a source or the sink failed
abbrev pub IsSystemFault : TextFault → Type 0
IsSystemFault texts.Memory = Unit {0}
IsSystemFault texts.Read = Unit {0}
IsSystemFault texts.Write = Unit {0}
IsSystemFault _ = ⊥

-- the trace is refused, and running out of memory is never reported as that; or it is a fault of the system
abbrev pub IsUnderFault : TextFault → Type 0
IsUnderFault (texts.Trace fault) = fault ≢ traces.Memory
IsUnderFault fault = IsSystemFault fault

-- the text of the machine is refused, or it is one of the faults above
abbrev pub IsConvertFault : TextFault → Type 0
IsConvertFault (texts.Config fault) = Unit {0}
IsConvertFault fault = IsUnderFault fault

-- what a fault of reading the volume before, or the trace, comes to: a fault of its text refuses it
abbrev pub volume_refused : TextFault → Result Converted TextFault
volume_refused (texts.Trace fault) = Ok (VolumeRefused fault)
volume_refused fault = Err fault

abbrev pub trace_refused : TextFault → Result Converted TextFault
trace_refused (texts.Trace fault) = Ok (TraceRefused fault)
trace_refused fault = Err fault

-- the volume before the trace was read to its end, and the trace too, and the sink took the trace with the head that
-- comes after that volume; or the volume is refused, and nothing was read of the trace; or the trace is refused, after
-- a volume that another may come after; if one is refused nothing was written
abbrev pub IsConversion : Seen → Seen → Option (List ℕ) → Option (List ℕ) → Type 0 → Type 0 → Converted → Type 0
IsConversion before trace old new unread untouched Written = IsAtEnd before.has × IsAtEnd trace.has × Writes IsNextVolume before.had trace.had old new
IsConversion before trace old new unread untouched (VolumeRefused fault) = IfSome before.had (λ text. IsRefusedLast text fault) × IsAtEnd before.has × unread × untouched
IsConversion before trace old new unread untouched (TraceRefused fault) =
    IfSome before.had (λ text. (head : Head) × IsHeadAfter text head) × IfSome trace.had (λ text. IsRefusedBare text fault) × IsAtEnd trace.has × untouched
