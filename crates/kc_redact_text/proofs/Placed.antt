-- The header of a trace is judged by the machine at the start.
use Rattle.std.proofs.Common.{◌≡◌, ◌≢◌, ℕ, List, Option, Some, None, Result, Ok, Err, subst}
use Rattle.std.specs.Prelude.{IfSome, IfErr}
use Rattle.std.specs.Io.KnownBytes.{IsAtEnd}
use Rattle.std.proofs.lemmas.Option.{same_Some}
use Rattle.kc_types.specs.Configuration.{Configuration}
use Rattle.kc_types.specs.declared.call.Call.{Call}
use Rattle.kc_model.specs.State.{State}
use Rattle.kc_remarks.specs.declared.denials.Denials.{Denials}
use Rattle.kc_trace.specs.declared.header.Header.{Header}
use Rattle.kc_trace.specs.declared.expected.Expected.{Expected}
use Rattle.kc_trace.specs.declared.expected.HeaderFault.{HeaderFault}
use Rattle.kc_trace.specs.declared.fault.TraceFault.{TraceFault}
use Rattle.kc_trace.specs.declared.fault.TraceFault.TheVariants.{Misplaced, Memory}
use Rattle.kc_trace.specs.Trace.{IsRefused}
use Rattle.kc_trace.specs.Expected.{IsHeaderFault, IsRefusedThere}
use Rattle.kc_texts.specs.Ends.{Seen}
use Rattle.kc_texts.specs.declared.order.Origin.{Origin}
use Rattle.kc_faults.specs.Origins.{BeginsIn}
use Rattle.kc_faults.specs.Outcomes.{IsTold, TellsTexts}
use Rattle.kc_faults.specs.declared.fault.TextFault.{TextFault}
use Rattle.kc_faults.specs.declared.fault.TextFault.TheVariants as texts
use Rattle.kc_faults.proofs.Placed.{refused_there}
use Rattle.kc_faults.proofs.Told.{texts_ok, texts_trace}
use Rattle.kc_redact_text.specs.Made.{config_of}
use Rattle.kc_redact_text.specs.Reading.{IsHeaderAndCalls, IsReadingFault}

-- ---- before and after the calls

-- a text that is not a trace is not one that may go on there
pub refused : (core : Option State) (source : Option (List ℕ)) (expected : Expected) (fault : TraceFault) → IfSome source (λ text. IsRefused text fault) → IfSome core (λ m. IfSome source (λ text. IsRefusedThere m.config expected text fault))
refused None source expected fault is = tt
refused (Some m) None expected fault is = tt
refused (Some m) (Some text) expected fault is = refused_there m.config expected text fault is

read_misplaced : (m : State) (source : Option (List ℕ)) (expected : Expected) (header : Header) (kept : List Call) (denials : Denials) (wrong : HeaderFault) → IsHeaderFault m.config expected header wrong → IfSome source (λ text. IsHeaderAndCalls (Some m) text header kept denials)
    → IfSome source (λ text. IsRefusedThere m.config expected text (Misplaced wrong))
read_misplaced m None expected header kept denials wrong is read = tt
read_misplaced m (Some text) expected header kept denials wrong is read = (header, read.calls, read.read, is)

-- one whose header may not be there by the core's machine after the calls, and so by that before them
pub misplaced : (before after : Option State) (source : Option (List ℕ)) (expected : Expected) (header : Header) (kept : List Call) (denials : Denials) (wrong : HeaderFault) → config_of after ≡ config_of before → IfSome after (λ m. IsHeaderFault m.config expected header wrong)
    → IfSome source (λ text. IsHeaderAndCalls before text header kept denials) → IfSome before (λ m. IfSome source (λ text. IsRefusedThere m.config expected text (Misplaced wrong)))
misplaced None after source expected header kept denials wrong same is read = tt
misplaced (Some m) None source expected header kept denials wrong same is read = absurd cc
misplaced (Some m) (Some n) source expected header kept denials wrong same is read =
    read_misplaced m source expected header kept denials wrong (subst (λ (config : Configuration). IsHeaderFault config expected header wrong) (same_Some n.config m.config same) is) read

-- ---- by where the calls begin

is_told : (fault : TextFault) → IsReadingFault fault → IsTold fault
is_told (texts.Trace said) is = (λ e. cc, λ e. absurd (is (let same : said ≡ Memory = cc in same)), λ e. cc, λ d e. cc)
is_told texts.Memory is = (λ e. cc, λ e. cc, λ e. cc, λ d e. cc)
is_told texts.Read is = (λ e. cc, λ e. cc, λ e. cc, λ d e. cc)
is_told _ is = absurd is

is_of_trace : (fault : TextFault) → IsReadingFault fault → ((said : _) → fault ≢ texts.Config said) × ((said : _) → fault ≢ texts.State said)
is_of_trace (texts.Trace said) is = (λ other e. cc, λ other e. cc)
is_of_trace texts.Memory is = (λ other e. cc, λ other e. cc)
is_of_trace texts.Read is = (λ other e. cc, λ other e. cc)
is_of_trace _ is = absurd is

-- the trace was read, or not, after a start
pub texts_read : {A : Type 0} (origin : Origin) (start trace : Seen) (unread : Type 0) (m : State) (expected : Expected) (result : Result A TextFault) → IfSome start.had (λ text. BeginsIn origin text m expected)
    → ((fault : TraceFault) → result ≡ Err (texts.Trace fault) → IfSome trace.had (λ text. IsRefusedThere m.config expected text fault) × IsAtEnd trace.has) → IfErr result IsReadingFault → TellsTexts origin start trace unread result
texts_read origin start trace unread m expected (Ok x) begins refused fault = texts_ok origin start trace unread m expected x begins
texts_read {A} origin start trace unread m expected (Err f) begins refused fault =
    let of_trace = is_of_trace f fault in
    texts_trace origin start trace unread m expected f begins
    (λ said same. refused said (let e : ◌≡◌ {A = Result A TextFault} (Err f) (Err (texts.Trace said)) = cc in e))
    of_trace.0 of_trace.1 (is_told f fault)
