-- Which traces may go on from a start, by their headers, and why others may not.
use Rattle.std.proofs.Common.{ℕ, List, Option, Some, None}
use Rattle.std.specs.Prelude.{IfSome}
use Rattle.kc_types.specs.Configuration.{Configuration}
use Rattle.kc_types.specs.declared.call.Call.{Call}
use Rattle.kc_model.specs.State.{State}
use Rattle.kc_trace.specs.declared.header.Header.{Header}
use Rattle.kc_trace.specs.declared.expected.Expected.{Expected}
use Rattle.kc_trace.specs.declared.expected.HeaderFault.{HeaderFault}
use Rattle.kc_trace.specs.declared.fault.TraceFault.{TraceFault}
use Rattle.kc_trace.specs.declared.fault.TraceFault.TheVariants.{NoHeader, BadLine, NoNewline, TooManyCalls, Misplaced, Memory}
use Rattle.kc_trace.specs.Trace.{IsTraceUnder, IsRefused}
use Rattle.kc_trace.specs.Expected.{MayHave, IsHeaderFault, IsTraceThere, IsRefusedThere}
use Rattle.kc_texts.specs.declared.order.Origin.{Origin}
use Rattle.kc_faults.specs.Origins.{BeginsIn, IsRefusedFrom}

-- a trace whose header may be there
pub is_there : (config : Configuration) (expected : Expected) (header : Header) (source : Option (List ℕ)) (calls : List Call) → MayHave config expected header → IfSome source (λ text. IsTraceUnder header text calls) → IfSome source (λ text. IsTraceThere config expected text calls)
is_there config expected header None calls may under = tt
is_there config expected header (Some text) calls may under = (header, may, under)

-- one whose header may not
pub misplaced_there : (config : Configuration) (expected : Expected) (header : Header) (source : Option (List ℕ)) (calls : List Call) (wrong : HeaderFault) → IfSome source (λ text. IsTraceUnder header text calls) → IsHeaderFault config expected header wrong → IfSome source (λ text. IsRefusedThere config expected text (Misplaced wrong))
misplaced_there config expected header None calls wrong under is = tt
misplaced_there config expected header (Some text) calls wrong under is = (header, calls, under, is)

-- a text that is not a trace is not one that may be there
pub refused_there : (config : Configuration) (expected : Expected) (text : List ℕ) (fault : TraceFault) → IsRefused text fault → IsRefusedThere config expected text fault
refused_there config expected text NoHeader is = is
refused_there config expected text (BadLine n) is = is
refused_there config expected text NoNewline is = is
refused_there config expected text TooManyCalls is = is
refused_there config expected text (Misplaced wrong) is = absurd is
refused_there config expected text Memory is = is

pub known_refused_there : (config : Configuration) (expected : Expected) (source : Option (List ℕ)) (fault : TraceFault) → IfSome source (λ text. IsRefused text fault) → IfSome source (λ text. IsRefusedThere config expected text fault)
known_refused_there config expected None fault is = tt
known_refused_there config expected (Some text) fault is = refused_there config expected text fault is

-- a text that is refused where a start leads is refused from it
refused_from : (origin : Origin) (start : Option (List ℕ)) (m : State) (expected : Expected) (text : List ℕ) (fault : TraceFault) → IfSome start (λ first. BeginsIn origin first m expected) → IsRefusedThere m.config expected text fault → IsRefusedFrom origin start text fault
refused_from origin start m expected text NoHeader begins is = is
refused_from origin start m expected text (BadLine n) begins is = is
refused_from origin start m expected text NoNewline begins is = is
refused_from origin start m expected text TooManyCalls begins is = is
refused_from origin None m expected text (Misplaced wrong) begins is = tt
refused_from origin (Some first) m expected text (Misplaced wrong) begins is = (m, expected, begins, is)
refused_from origin start m expected text Memory begins is = is

pub known_refused_from : (origin : Origin) (start : Option (List ℕ)) (m : State) (expected : Expected) (trace : Option (List ℕ)) (fault : TraceFault) → IfSome start (λ first. BeginsIn origin first m expected) → IfSome trace (λ text. IsRefusedThere m.config expected text fault)
    → IfSome trace (λ text. IsRefusedFrom origin start text fault)
known_refused_from origin start m expected None fault begins is = tt
known_refused_from origin start m expected (Some text) fault begins is = refused_from origin start m expected text fault begins is
