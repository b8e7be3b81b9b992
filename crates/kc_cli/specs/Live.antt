-- What the live engine leaves of what its sources held.
use Rattle.std.specs.Prelude.{◌≡◌, ◌≢◌, ◌<◌, ℕ, List, length, Option, Some, None}
use Rattle.kc_types.specs.Configuration.{Configuration}
use Rattle.kc_types.specs.Limits.{call_limit}
use Rattle.kc_types.specs.declared.call.Call.{Call}
use Rattle.kc_live.specs.declared.stop.LiveCause.{LiveCause}
use Rattle.kc_live.specs.declared.stop.LiveCause.TheVariants as causes
use Rattle.kc_model.specs.Boot.{boot}
use Rattle.kc_model.specs.Promises.{KeepsPromises}
use Rattle.kc_live.specs.Cuts.{KeepsOrders, MayRun, StopsTrace}
use Rattle.kc_dump_text.specs.declared.fault.DumpFault.{DumpFault}
use Rattle.kc_state_text.specs.declared.fault.StateFault.{StateFault}
use Rattle.kc_config_text.specs.declared.config_text.ConfigTextFault.{ConfigTextFault}
use Rattle.kc_trace.specs.declared.fault.TraceFault.{TraceFault}
use Rattle.kc_trace.specs.declared.fault.TraceFault.TheVariants as traces
use Rattle.kc_trace.specs.Spelling.{trace_of}
use Rattle.kc_cli.specs.Reading.{AreRead}
use Rattle.kc_faults.specs.declared.fault.TextFault.{TextFault}
use Rattle.kc_faults.specs.declared.fault.TextFault.TheVariants as texts

-- the text is the trace of these calls in an order in which each actor's calls keep theirs, and they keep the promises in that order
abbrev pub IsRearranged : Configuration → List Call → List ℕ → Type 0
IsRearranged config calls text = (made : List Call) × KeepsOrders made calls × KeepsPromises (boot config) made × (text ≡ trace_of made)

-- both texts were read, if the sources report them, and the trace may run
abbrev pub CouldRun : Option (List ℕ) → Option (List ℕ) → Type 0
CouldRun None trace = Unit {0}
CouldRun (Some config) None = Unit {0}
CouldRun (Some config_text) (Some trace_text) =
    (config : Configuration) × (calls : List Call) × AreRead config_text trace_text config calls × MayRun config calls

-- the text is the trace read, which may run, rearranged
abbrev pub IsLiveText : List ℕ → List ℕ → List ℕ → Type 0
IsLiveText config_text trace_text text = (config : Configuration) × (calls : List Call) × AreRead config_text trace_text config calls × MayRun config calls × IsRearranged config calls text

-- the program of this number, of those that the trace is cut into, has an actor that is not one of the core's
abbrev pub HasBadActor : Option (List ℕ) → Option (List ℕ) → ℕ → Type 0
HasBadActor None trace program = Unit {0}
HasBadActor (Some config) None program = Unit {0}
HasBadActor (Some config_text) (Some trace_text) program =
    (config : Configuration) × (calls : List Call) × AreRead config_text trace_text config calls × StopsTrace config calls (causes.BadActor program)

-- what a live run of these calls may be refused for
pub record IsLiveFault (machine : Configuration) (calls : List Call) (fault : TextFault) : Type 0 where
  pub workers : fault ≢ texts.Workers
  pub read : fault ≢ texts.Read
  pub write : fault ≢ texts.Write
  pub config : (said : ConfigTextFault) → fault ≢ texts.Config said
  pub dump : (said : DumpFault) → fault ≢ texts.Dump said
  pub state : (said : StateFault) → fault ≢ texts.State said
  pub trace : (said : TraceFault) → fault ≡ texts.Trace said → (said ≡ traces.TooManyCalls) × (call_limit < length calls)
  pub actor : (program : ℕ) → fault ≡ texts.BadActor program → StopsTrace machine calls (causes.BadActor program)
  pub slot : (number : ℕ) → fault ≢ texts.NoSlot number
  pub text : fault ≢ texts.NoText
  pub started : fault ≡ texts.Start → MayRun machine calls
  pub unsettled : fault ≡ texts.Unsettled → MayRun machine calls

-- the fault that the cause of a live run is; with more calls than a history has room for the trace is refused, and no program of a trace has another's calls
abbrev pub live_fault : LiveCause → TextFault
live_fault (causes.BadActor program) = texts.BadActor program
live_fault causes.HistoryFull = texts.Trace traces.TooManyCalls
live_fault causes.Memory = texts.Memory
live_fault causes.Start = texts.Start
live_fault causes.Unsettled = texts.Unsettled
live_fault (causes.NotYours program call) = texts.Unsettled
