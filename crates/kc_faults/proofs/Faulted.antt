-- Which fault of the engine a fault of reading is.
use Rattle.std.proofs.Common.{◌≡◌, ◌≢◌, ap}
use Rattle.kc_config_text.specs.declared.config_text.ConfigTextFault.{ConfigTextFault}
use Rattle.kc_trace.specs.declared.fault.TraceFault.TheVariants.{Memory}
use Rattle.kc_faults.specs.Outcomes.{IsTold}
use Rattle.kc_trace.specs.declared.fault.TraceFault.{TraceFault}
use Rattle.kc_state_text.specs.declared.fault.StateFault.{StateFault}
use Rattle.kc_texts.specs.declared.stream.StreamFault.{StreamFault}
use Rattle.kc_texts.specs.declared.stream.StreamFault.TheVariants as streams
use Rattle.kc_faults.specs.declared.fault.TextFault.TheVariants as texts
use Rattle.kc_state_text.specs.declared.fault.StateFault.TheVariants as states
use Rattle.kc_faults.specs.Faults.{text_fault, state_fault}

-- a fault of the trace comes from the trace
pub trace_said : (said : StreamFault) (fault : TraceFault) → text_fault said ≡ texts.Trace fault → said ≡ streams.Trace fault
trace_said (streams.Trace other) fault e = let same : other ≡ fault = cc in ap streams.Trace same
trace_said streams.Memory fault e = cc
trace_said streams.Read fault e = cc

pub stream_config : (said : StreamFault) (fault : ConfigTextFault) → text_fault said ≢ texts.Config fault
stream_config (streams.Trace other) fault e = cc
stream_config streams.Memory fault e = cc
stream_config streams.Read fault e = cc

pub stream_state : (said : StreamFault) (fault : StateFault) → text_fault said ≢ texts.State fault
stream_state (streams.Trace other) fault e = cc
stream_state streams.Memory fault e = cc
stream_state streams.Read fault e = cc

-- a fault of a state's text is that one
pub state_said : (said fault : StateFault) → state_fault said ≡ texts.State fault → said ≡ fault
state_said states.NoHeader fault e = let same : states.NoHeader ≡ fault = cc in same
state_said (states.BadLine n) fault e = let same : states.BadLine n ≡ fault = cc in same
state_said (states.Missing n) fault e = let same : states.Missing n ≡ fault = cc in same
state_said states.Sizes fault e = let same : states.Sizes ≡ fault = cc in same
state_said (states.Found found) fault e = let same : states.Found found ≡ fault = cc in same
state_said (states.Slot n) fault e = let same : states.Slot n ≡ fault = cc in same
state_said (states.Frame n) fault e = let same : states.Frame n ≡ fault = cc in same
state_said states.Memory fault e = absurd cc

pub stream_told : (said : StreamFault) → said ≢ streams.Trace Memory → IsTold (text_fault said)
stream_told (streams.Trace other) h = (λ e. cc, λ e. let same : other ≡ Memory = cc in h (ap streams.Trace same), λ e. cc, λ d e. cc)
stream_told streams.Memory h = (λ e. cc, λ e. cc, λ e. cc, λ d e. cc)
stream_told streams.Read h = (λ e. cc, λ e. cc, λ e. cc, λ d e. cc)
