-- What the program says of a text that is not a state.
use Rattle.std.specs.Prelude.{ℕ, ◌+◌, List, [], codes, Option, Some, None}
use Rattle.kc_state_text.specs.declared.fault.StateFault.{StateFault}
use Rattle.kc_state_text.specs.declared.fault.StateFault.TheVariants.{NoHeader, BadLine, Missing, Sizes, Found, Slot, Frame, Memory}
use Rattle.kc_snapshot.specs.declared.unlawful.Unlawful.{Unlawful}
use Rattle.kc_snapshot.specs.declared.unlawful.Unlawful.TheVariants as unlawful
use Rattle.kc_dump_text.specs.declared.fault.DumpFault.{DumpFault}
use Rattle.kc_dump_text.specs.declared.fault.DumpFault.TheVariants as dump
use Rattle.kc_trace.specs.declared.header.Position.{Position}

-- what is wrong with a state if this is wrong with its dump, which comes after this many lines
abbrev pub dump_fault : ℕ → DumpFault → StateFault
dump_fault before dump.NoHeader = BadLine (before + 1)
dump_fault before (dump.BadLine n) = BadLine (before + n)
dump_fault before (dump.Frame f) = Missing f
dump_fault before dump.Memory = Memory

-- what is wrong with a text that describes no lawful state, for this reason
abbrev pub unlawful_fault : Unlawful → StateFault
unlawful_fault unlawful.Sizes = Sizes
unlawful_fault (unlawful.Found finding) = Found finding
unlawful_fault (unlawful.Slot v) = Slot v
unlawful_fault (unlawful.Frame f) = Frame f
unlawful_fault unlawful.Memory = Memory

-- what is wrong with a text with this position or none, if this is wrong with the text without it: there each line
-- after the header comes one line earlier
abbrev pub fault_after : Option Position → StateFault → StateFault
fault_after None fault = fault
fault_after (Some position) (BadLine n) = BadLine (n + 1)
fault_after (Some position) fault = fault

-- why a text is not a state's, up to the number of a line, a frame or a slot; the text of a finding follows
abbrev pub state_fault_words : StateFault → List ℕ
state_fault_words NoHeader = codes "no state header"
state_fault_words (BadLine number) = codes "bad state line "
state_fault_words (Missing frame) = codes "dump frame "
state_fault_words Sizes = codes "state of no configuration"
state_fault_words (Found finding) = codes "state with finding "
state_fault_words (Slot vm) = codes "bad slot "
state_fault_words (Frame frame) = codes "bad frame "
state_fault_words Memory = codes "out of memory"

-- the number of a line, a frame or a slot
abbrev pub state_fault_number : StateFault → Option ℕ
state_fault_number NoHeader = None
state_fault_number (BadLine number) = Some number
state_fault_number (Missing frame) = Some frame
state_fault_number Sizes = None
state_fault_number (Found finding) = None
state_fault_number (Slot vm) = Some vm
state_fault_number (Frame frame) = Some frame
state_fault_number Memory = None

-- what follows the number
abbrev pub state_fault_end : StateFault → List ℕ
state_fault_end (Missing frame) = codes " missing or doubled"
state_fault_end fault = []
