-- What the engines of redaction write, by what their sources held.
use Rattle.std.specs.Prelude.{◌≢◌, ℕ, List, take, Option, Some, None}
use Rattle.std.specs.Io.KnownBytes.{Appends}
use Rattle.kc_types.specs.declared.call.Call.{Call}
use Rattle.kc_trace.specs.declared.fault.TraceFault.TheVariants as traces
use Rattle.kc_faults.specs.declared.fault.TextFault.{TextFault}
use Rattle.kc_faults.specs.declared.fault.TextFault.TheVariants as texts
use Rattle.kc_model.specs.State.{State}
use Rattle.kc_trace.specs.declared.expected.Expected.{Expected}
use Rattle.kc_trace.specs.Expected.{IsTraceThere}
use Rattle.kc_texts.specs.declared.order.Origin.{Origin}
use Rattle.kc_faults.specs.Origins.{BeginsIn}
use Rattle.kc_redact.specs.Redacted.{IsRedaction, IsHostRedaction}

-- the sink took the redacted trace of the trace that the source held, if that is known
abbrev pub Redacts : Option (List ℕ) → Option (List ℕ) → Option (List ℕ) → Type 0
Redacts None old new = Unit {0}
Redacts (Some text) old new = (other : List ℕ) × (calls : List Call) × IsRedaction text other calls × Appends old new other

-- the same for the beginning of the redacted trace
abbrev pub BeginsRedaction : Option (List ℕ) → Option (List ℕ) → Option (List ℕ) → Type 0
BeginsRedaction None old new = Unit {0}
BeginsRedaction (Some text) old new = (other : List ℕ) × (calls : List Call) × (n : ℕ) × IsRedaction text other calls × Appends old new (take n other)

-- the trace is refused, and running out of memory is never reported as that; or memory ran out, or the source or the
-- sink failed
abbrev pub IsRedactFault : TextFault → Type 0
IsRedactFault (texts.Trace fault) = fault ≢ traces.Memory
IsRedactFault texts.Memory = Unit {0}
IsRedactFault texts.Read = Unit {0}
IsRedactFault texts.Write = Unit {0}
IsRedactFault _ = ⊥

-- the trace may have its header where the first text says that calls begin, and the text is the trace without these
-- bytes, and also without those that the host writes to frames of active VMs, if its calls begin in the state there
abbrev pub IsHostRedacted : Origin → List ℕ → List ℕ → List ℕ → Type 0
IsHostRedacted origin start_text trace_text text =
    (m : State) × (expected : Expected) × (calls : List Call) × BeginsIn origin start_text m expected × IsTraceThere m.config expected trace_text calls × IsHostRedaction m trace_text text calls

-- what the calls begin with is refused, or it is one of the faults above; before anything is written the sink has not
-- failed
abbrev pub IsHostRedactFault : TextFault → Type 0
IsHostRedactFault (texts.Config fault) = Unit {0}
IsHostRedactFault (texts.State fault) = Unit {0}
IsHostRedactFault fault = IsRedactFault fault

abbrev pub IsHostReadingFault : TextFault → Type 0
IsHostReadingFault fault = IsHostRedactFault fault × (fault ≢ texts.Write)
