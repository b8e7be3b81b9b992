-- The line and the exit status of each fault.
use Rattle.std.specs.Prelude.{ℕ, List, [], ◌++◌, codes, decimal, Option, Some, None}
use Rattle.kc_config_text.specs.Faults.{config_fault_words}
use Rattle.kc_trace.specs.Faults.{trace_fault_words}
use Rattle.kc_config_text.specs.declared.config_text.ConfigTextFault.{ConfigTextFault}
use Rattle.kc_config_text.specs.declared.config_text.ConfigTextFault.TheVariants as configs
use Rattle.kc_trace.specs.declared.fault.TraceFault.{TraceFault}
use Rattle.kc_trace.specs.declared.fault.TraceFault.TheVariants as traces
use Rattle.kc_dump_text.specs.Faults.{dump_fault_words, dump_fault_end}
use Rattle.kc_dump_text.specs.declared.fault.DumpFault.{DumpFault}
use Rattle.kc_dump_text.specs.declared.fault.DumpFault.TheVariants as dumps
use Rattle.kc_audit.specs.Report.{finding_text}
use Rattle.kc_state_text.specs.Faults.{state_fault_words, state_fault_number, state_fault_end}
use Rattle.kc_state_text.specs.declared.fault.StateFault.{StateFault}
use Rattle.kc_state_text.specs.declared.fault.StateFault.TheVariants as states
use Rattle.kc_texts.specs.declared.whole.ReadFault.{ReadFault}
use Rattle.kc_texts.specs.declared.whole.ReadFault.TheVariants as reads
use Rattle.kc_texts.specs.declared.stream.StreamFault.{StreamFault}
use Rattle.kc_texts.specs.declared.stream.StreamFault.TheVariants as streams
use Rattle.kc_faults.specs.declared.fault.TextFault.{TextFault}
use Rattle.kc_faults.specs.declared.fault.TextFault.TheVariants as texts

-- the fault that a fault of reading is
abbrev pub read_fault : ReadFault → TextFault
read_fault reads.Memory = texts.Memory
read_fault reads.Read = texts.Read

-- the fault that a fault of a trace's source is
abbrev pub text_fault : StreamFault → TextFault
text_fault (streams.Trace fault) = texts.Trace fault
text_fault streams.Memory = texts.Memory
text_fault streams.Read = texts.Read

-- the fault that a fault of a configuration's text is
abbrev pub config_fault : ConfigTextFault → TextFault
config_fault configs.Memory = texts.Memory
config_fault fault = texts.Config fault

-- the fault that a fault of a dump's text is
abbrev pub dump_fault : DumpFault → TextFault
dump_fault dumps.Memory = texts.Memory
dump_fault fault = texts.Dump fault

-- the fault that a fault of a state's text is
abbrev pub state_fault : StateFault → TextFault
state_fault states.Memory = texts.Memory
state_fault fault = texts.State fault

-- 3 if memory, a thread, a source or the sink failed, 2 if the input is refused
abbrev pub status_of : TextFault → ℕ
status_of (texts.Config configs.Memory) = 3
status_of (texts.Config fault) = 2
status_of (texts.Trace traces.Memory) = 3
status_of (texts.Trace fault) = 2
status_of (texts.Dump dumps.Memory) = 3
status_of (texts.Dump fault) = 2
status_of (texts.State states.Memory) = 3
status_of (texts.State fault) = 2
status_of texts.Workers = 2
status_of texts.Memory = 3
status_of texts.Start = 3
status_of texts.Unsettled = 3
status_of (texts.BadActor program) = 2
status_of (texts.NoSlot slot) = 2
status_of texts.NoText = 2
status_of texts.Read = 3
status_of texts.Write = 3

-- what is wrong, up to a number, if it has one
abbrev pub fault_words : TextFault → List ℕ
fault_words (texts.Config fault) = config_fault_words fault
fault_words (texts.Trace fault) = trace_fault_words fault
fault_words (texts.Dump fault) = dump_fault_words fault
fault_words (texts.State fault) = state_fault_words fault
fault_words texts.Workers = codes "bad number of workers"
fault_words texts.Memory = codes "out of memory"
fault_words texts.Start = codes "a worker could not be started"
fault_words texts.Unsettled = codes "history not settled"
fault_words (texts.BadActor program) = codes "bad actor of program "
fault_words (texts.NoSlot slot) = codes "the machine has no slot "
fault_words texts.NoText = codes "version 3 has no dump and no state"
fault_words texts.Read = codes "read failed"
fault_words texts.Write = codes "write failed"

-- the number of a line, a frame, a program or a slot
abbrev pub fault_number : TextFault → Option ℕ
fault_number (texts.Trace (traces.BadLine number)) = Some number
fault_number (texts.Dump (dumps.BadLine number)) = Some number
fault_number (texts.Dump (dumps.Frame frame)) = Some frame
fault_number (texts.State fault) = state_fault_number fault
fault_number (texts.BadActor program) = Some program
fault_number (texts.NoSlot slot) = Some slot
fault_number fault = None

abbrev pub numeral_of : Option ℕ → List ℕ
numeral_of None = []
numeral_of (Some number) = decimal number

-- what is said after the number
abbrev pub fault_end : TextFault → List ℕ
fault_end (texts.Dump fault) = dump_fault_end fault
fault_end (texts.State fault) = state_fault_end fault
fault_end fault = []

-- what an audit finds first in the dump of a state
abbrev pub fault_finding : TextFault → List ℕ
fault_finding (texts.State (states.Found finding)) = finding_text finding
fault_finding fault = []

-- the whole line, with the line feed
abbrev pub fault_line : TextFault → List ℕ
fault_line fault = codes "kcore: " ++ fault_words fault ++ numeral_of (fault_number fault) ++ fault_finding fault ++ fault_end fault ++ codes "\n"

-- the whole line of a fault of a trace that is one of several volumes, by its number
abbrev pub volume_fault_line : ℕ → TraceFault → List ℕ
volume_fault_line number fault =
    codes "kcore: volume " ++ decimal number ++ codes ": " ++ fault_words (texts.Trace fault) ++ numeral_of (fault_number (texts.Trace fault)) ++ codes "\n"
