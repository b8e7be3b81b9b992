-- What the program says of a trace that is refused.
use Rattle.std.specs.Prelude.{ℕ, List, codes}
use Rattle.kc_trace.specs.declared.expected.MachinePart.TheVariants as parts
use Rattle.kc_trace.specs.declared.expected.HeaderFault.{HeaderFault}
use Rattle.kc_trace.specs.declared.expected.HeaderFault.TheVariants as headers
use Rattle.kc_trace.specs.declared.fault.TraceFault.{TraceFault}
use Rattle.kc_trace.specs.declared.fault.TraceFault.TheVariants as traces

-- what is wrong with a header
abbrev pub header_fault_words : HeaderFault → List ℕ
header_fault_words (headers.Machine parts.Version) = codes "machine of the trace differs: version"
header_fault_words (headers.Machine parts.Frames) = codes "machine of the trace differs: frames"
header_fault_words (headers.Machine parts.Core) = codes "machine of the trace differs: core"
header_fault_words (headers.Machine parts.Host) = codes "machine of the trace differs: host"
header_fault_words (headers.Machine parts.Leaves) = codes "machine of the trace differs: leaves"
header_fault_words (headers.Machine parts.Approved) = codes "machine of the trace differs: approved"
header_fault_words headers.NotFirst = codes "trace is not the first volume"
header_fault_words headers.Number = codes "volume of the trace differs: number"
header_fault_words headers.Digest = codes "volume of the trace differs: digest"
header_fault_words headers.Missing = codes "trace has no head, and one is expected"
header_fault_words headers.Unexpected = codes "trace has a head, and none is expected"

-- why a text is not a trace, up to the number of a bad line
abbrev pub trace_fault_words : TraceFault → List ℕ
trace_fault_words traces.NoHeader = codes "no trace header"
trace_fault_words (traces.BadLine number) = codes "bad trace line "
trace_fault_words traces.NoNewline = codes "last trace line has no newline"
trace_fault_words traces.TooManyCalls = codes "too many calls"
trace_fault_words (traces.Misplaced fault) = header_fault_words fault
trace_fault_words traces.Memory = codes "out of memory"
