-- What a redaction writes reaches the sink.
use Rattle.std.proofs.Common.{◌≡◌, ℕ, List, Option, Some, None, take, length, ap, ◌∙◌}
use Rattle.std.specs.Prelude.{IfSome}
use Rattle.std.specs.Io.KnownBytes.{Appends}
use Rattle.kc_types.specs.declared.call.Call.{Call}
use Rattle.kc_model.specs.State.{State}
use Rattle.kc_model.specs.Lawful.{IsLawful}
use Rattle.kc_trace.specs.declared.header.Header.{Header}
use Rattle.kc_trace.specs.declared.expected.Expected.{Expected}
use Rattle.kc_trace.specs.Expected.{MayHave}
use Rattle.kc_trace.specs.Header.{host_redacted}
use Rattle.kc_trace.specs.Spelling.{text_of}
use Rattle.kc_texts.specs.declared.order.Origin.{Origin}
use Rattle.kc_faults.specs.Origins.{BeginsIn}
use Rattle.kc_texts.specs.Written.{Writes, Begins}
use Rattle.kc_redact.specs.Redacted.{IsRedaction}
use Rattle.kc_redact.proofs.Redacted.{is_redaction, is_host_redaction, host-number}
use Rattle.kc_remarks.specs.declared.denials.Denials.{Denials}
use Rattle.kc_remarks.specs.declared.denials.Answered.{Answered}
use Rattle.kc_cli.specs.Answers.{AreAnswered}
use Rattle.kc_cli.proofs.Counted.{answered_by}
use Rattle.kc_redact_text.specs.Made.{redacted_by}
use Rattle.kc_redact_text.specs.Reading.{IsHeaderAndCalls}
use Rattle.kc_redact_text.specs.Redacts.{Redacts, BeginsRedaction, IsHostRedacted}

-- after the header that was read, the text has the lines of the calls that were kept
text_is : (core : Option State) (text : List ℕ) (header : Header) (kept : List Call) (denials : Denials) (read : IsHeaderAndCalls core text header kept denials) → text_of header kept ≡ text_of header (redacted_by core read.calls)
text_is core text header kept denials read = ap (λ calls. text_of header calls) read.redacted

plainly : (text : List ℕ) (header : Header) (kept : List Call) (denials : Denials) (read : IsHeaderAndCalls None text header kept denials) → IsRedaction text (text_of header kept) read.calls
plainly text header kept denials read = is_redaction text (text_of header kept) read.calls (header, read.read) (text_is None text header kept denials read)

pub redacts : (source old new : Option (List ℕ)) (header : Header) (kept : List Call) (denials : Denials) → IfSome source (λ text. IsHeaderAndCalls None text header kept denials) → Appends old new (text_of header kept) → Redacts source old new
redacts None old new header kept denials read given = tt
redacts (Some text) old new header kept denials read given = (text_of header kept, read.calls, plainly text header kept denials read, given)

pub begins : (source old new : Option (List ℕ)) (header : Header) (kept : List Call) (denials : Denials) → IfSome source (λ text. IsHeaderAndCalls None text header kept denials) → ((n : ℕ) × Appends old new (take n (text_of header kept))) → BeginsRedaction source old new
begins None old new header kept denials read cut = tt
begins (Some text) old new header kept denials read cut = (text_of header kept, read.calls, cut.0, plainly text header kept denials read, cut.1)

-- what was read of a start and a trace
abbrev pub WasMade : Origin → Option (List ℕ) → Option (List ℕ) → Header → List Call → Denials → Type 0
WasMade origin start trace header kept denials =
    (m : State) × (expected : Expected) × IsLawful m × IfSome start (λ text. BeginsIn origin text m expected) × MayHave m.config expected header × IfSome trace (λ text. IsHeaderAndCalls (Some m) text header kept denials)

-- the text that is written of these
abbrev pub host_text : Header → List Call → List ℕ
host_text header kept = text_of (host_redacted header) kept

is_host_redacted : (origin : Origin) (start text : List ℕ) (header : Header) (kept : List Call) (denials : Denials) → WasMade origin (Some start) (Some text) header kept denials → IsHostRedacted origin start text (host_text header kept)
is_host_redacted origin start text header kept denials made =
    let read = made.5 in
    (made.0, made.1, read.calls, made.3, (header, made.4, read.read), is_host_redaction made.0 text (host_text header kept) read.calls made.2 (header, read.read) (ap (λ calls. host_text header calls) read.redacted))

pub writes_host : (origin : Origin) (start trace old new : Option (List ℕ)) (header : Header) (kept : List Call) (denials : Denials) → WasMade origin start trace header kept denials → Appends old new (host_text header kept) → Writes (IsHostRedacted origin) start trace old new
writes_host origin None trace old new header kept denials made given = tt
writes_host origin (Some start) None old new header kept denials made given = tt
writes_host origin (Some start) (Some text) old new header kept denials made given = (host_text header kept, is_host_redacted origin start text header kept denials made, given)

pub begins_host : (origin : Origin) (start trace old new : Option (List ℕ)) (header : Header) (kept : List Call) (denials : Denials) → WasMade origin start trace header kept denials → ((n : ℕ) × Appends old new (take n (host_text header kept))) → Begins (IsHostRedacted origin) start trace old new
begins_host origin None trace old new header kept denials made cut = tt
begins_host origin (Some start) None old new header kept denials made cut = tt
begins_host origin (Some start) (Some text) old new header kept denials made cut = (host_text header kept, cut.0, is_host_redacted origin start text header kept denials made, cut.1)

-- the counts are those of the trace's calls
pub answers_host : (origin : Origin) (start trace : Option (List ℕ)) (header : Header) (kept : List Call) (denials : Denials) (answered : Answered) → WasMade origin start trace header kept denials → answered.calls ≡ length kept → answered.denials ≡ denials
    → AreAnswered origin start trace answered
answers_host origin None trace header kept denials answered made count same = tt
answers_host origin (Some start) None header kept denials answered made count same = tt
answers_host origin (Some start) (Some text) header kept denials answered made count same =
    let read = made.5 in
    let long : answered.calls ≡ length read.calls = count ∙ ap length read.redacted ∙ host-number made.0 read.calls in
    (made.0, made.1, made.3, (read.calls, (header, made.4, read.read), answered_by made.0 read.calls answered long (rw same read.counted)))
