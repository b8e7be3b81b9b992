-- What the outcome of an engine says of its sources and its sink: which faults there may be, and when each comes.
use Rattle.std.specs.Prelude.{◌≡◌, ◌≢◌, ◌<◌, ◌⊎◌, ◌↔◌, ℕ, Bool, true, List, Option, Result, Err, IfErr, IfSome, OnOk, OnErr, IsErrOf}
use Rattle.std.specs.List.{AllByRecursion}
use Rattle.std.specs.Io.KnownBytes.{IsAtEnd}
use Rattle.kc_types.specs.Limits.{worker_limit}
use Rattle.kc_config_text.specs.declared.config_text.ConfigTextFault.{ConfigTextFault}
use Rattle.kc_config_text.specs.declared.config_text.ConfigTextFault.TheVariants as configs
use Rattle.kc_trace.specs.declared.fault.TraceFault.{TraceFault}
use Rattle.kc_trace.specs.declared.fault.TraceFault.TheVariants as traces
use Rattle.kc_dump_text.specs.declared.fault.DumpFault.{DumpFault}
use Rattle.kc_config_text.specs.ConfigText.{config_in}
use Rattle.kc_texts.specs.Ends.{Seen, HasFailedRead, HasFailed}
use Rattle.kc_state_text.specs.declared.fault.StateFault.{StateFault}
use Rattle.kc_state_text.specs.declared.fault.StateFault.TheVariants as states
use Rattle.kc_state_text.specs.Refused.{IsRefusedPlaced}
use Rattle.kc_texts.specs.declared.order.Origin.{Origin}
use Rattle.kc_texts.specs.declared.order.Origin.TheVariants as origins
use Rattle.kc_faults.specs.Origins.{HasTexts, LacksTexts, IsBegun, IsRefusedFrom}
use Rattle.kc_faults.specs.declared.fault.TextFault.{TextFault}
use Rattle.kc_faults.specs.declared.fault.TextFault.TheVariants as texts

-- out of memory is reported as that, and never as a fault of a text; no fault is one of a dump
abbrev pub IsTold : TextFault → Type 0
IsTold fault = (fault ≢ texts.Config configs.Memory) × (fault ≢ texts.Trace traces.Memory) × (fault ≢ texts.State states.Memory) × ((said : DumpFault) → fault ≢ texts.Dump said)

-- reading ends in a fault of a source, of a text or of memory
pub record IsReadingFault (fault : TextFault) : Type 0 where
  pub workers : fault ≢ texts.Workers
  pub start : fault ≢ texts.Start
  pub unsettled : fault ≢ texts.Unsettled
  pub actor : (program : ℕ) → fault ≢ texts.BadActor program
  pub slot : (number : ℕ) → fault ≢ texts.NoSlot number
  pub text : fault ≢ texts.NoText
  pub write : fault ≢ texts.Write
  pub told : IsTold fault

-- reading what the calls begin with does not end in a fault of a trace
pub record IsStartFault (fault : TextFault) : Type 0 where
  pub reading : IsReadingFault fault
  pub trace : (said : TraceFault) → fault ≢ texts.Trace said

-- reading a configuration does not end in a fault of a state either
pub record IsConfigFault (fault : TextFault) : Type 0 where
  pub start : IsStartFault fault
  pub state : (said : StateFault) → fault ≢ texts.State said

pub record TellsSources {A : Type 0} (sources : List Seen) (result : Result A TextFault) : Type 0 where
  -- after a result nothing is left of them
  pub ended : OnOk result (AllByRecursion (λ source. IsAtEnd source.has) sources)
  -- a failed read is one of theirs, and is reported as nothing else
  pub read : result ≡ Err texts.Read → HasFailedRead sources
  pub failed : HasFailed sources → result ≡ Err texts.Read

-- `start` is the source of what the calls begin with, `unread` says that nothing of the trace was read
pub record TellsTexts {A : Type 0} (origin : Origin) (start trace : Seen) (unread : Type 0) (result : Result A TextFault) : Type 0 where
  -- the fault of a text is that of all the bytes that its source held, read as what the origin says that they are
  pub config_fault : (fault : ConfigTextFault) → result ≡ Err (texts.Config fault) → (origin ≡ origins.Boot) × IfSome start.had (λ text. config_in text ≡ Err fault) × IsAtEnd start.has × unread
  pub state_fault : (fault : StateFault) → result ≡ Err (texts.State fault) → (origin ≡ origins.State) × IfSome start.had (λ text. IsRefusedPlaced text fault) × IsAtEnd start.has × unread
  pub trace_fault : (fault : TraceFault) → result ≡ Err (texts.Trace fault) → IfSome trace.had (λ text. IsRefusedFrom origin start.had text fault) × IsAtEnd trace.has
  -- the trace is read and judged only after a start
  pub after_start : unread ⊎ IsBegun origin start.had
  pub begun : (fault : TraceFault) → result ≡ Err (texts.Trace fault) → IsBegun origin start.had
  -- out of memory is reported as that, and never as a fault of a text; no fault is one of a dump
  pub told : IfErr result IsTold

-- why a replay by this many workers may be refused, after this start; `wanted` says whether a dump or the text of a state is made, and `unread` that nothing of the trace was read
pub record TellsReplay {A : Type 0} (wanted : Bool) (workers : ℕ) (origin : Origin) (start : Option (List ℕ)) (unread : Type 0) (result : Result A TextFault) : Type 0 where
  -- a machine whose version has no such text is refused before the trace is read if one is wanted, and no other machine is
  pub has : OnOk result (wanted ≡ true → IfSome start (HasTexts origin))
  pub lacks : result ≡ Err texts.NoText → (wanted ≡ true) × IfSome start (LacksTexts origin) × unread
  pub judged : IsErrOf result texts.Workers ↔ ((workers ≡ 0) ⊎ (worker_limit < workers))
  -- a worker is started only if there is more than one
  pub started : result ≡ Err texts.Start → (1 < workers) × IsBegun origin start
  -- there is no fault of a live run, and none of a slot
  pub settled : result ≢ Err texts.Unsettled
  pub actor : (program : ℕ) → result ≢ Err (texts.BadActor program)
  pub slot : (number : ℕ) → result ≢ Err (texts.NoSlot number)

-- `begun` says that the sink took a beginning of what is written, and `untouched` that it is as it was
pub record TellsSink {A : Type 0} (failed : Bool) (begun untouched : Type 0) (result : Result A TextFault) : Type 0 where
  -- a failed write is the sink's, and is reported as nothing else
  pub write : result ≡ Err texts.Write → (failed ≡ true) × begun
  pub failed_is : failed ≡ true → result ≡ Err texts.Write
  -- every other fault leaves the sink as it was
  pub kept : OnErr result (untouched ⊎ (result ≡ Err texts.Write))
