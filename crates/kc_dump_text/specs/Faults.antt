-- What is reported of a text that is not a dump.
use Rattle.std.specs.Prelude.{ℕ, List, [], codes}
use Rattle.kc_dump_text.specs.declared.fault.DumpFault.{DumpFault}
use Rattle.kc_dump_text.specs.declared.fault.DumpFault.TheVariants.{NoHeader, BadLine, Frame, Memory}

-- why a text is not a dump, up to the number of a line or a frame
abbrev pub dump_fault_words : DumpFault → List ℕ
dump_fault_words NoHeader = codes "no dump header"
dump_fault_words (BadLine number) = codes "bad dump line "
dump_fault_words (Frame frame) = codes "dump frame "
dump_fault_words Memory = codes "out of memory"

-- the text after the number
abbrev pub dump_fault_end : DumpFault → List ℕ
dump_fault_end (Frame frame) = codes " missing or doubled"
dump_fault_end fault = []
