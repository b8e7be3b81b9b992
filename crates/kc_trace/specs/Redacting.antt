-- What a reader makes of the bytes that virtual processors write: it reads them, or puts zeros in their place.
use Rattle.std.specs.Prelude.{ℕ, List, Option, option_map, Result, Ok, Err}
use Rattle.kc_types.specs.declared.call.Call.{Call}
use Rattle.kc_model.specs.Redaction.{redacted_call, redacted}
use Rattle.kc_lines.specs.Words.{blanked_data}
use Rattle.kc_trace.specs.declared.fault.TraceFault.{TraceFault}
use Rattle.kc_trace.specs.declared.line.GuestData.{GuestData}
use Rattle.kc_trace.specs.declared.line.GuestData.TheVariants.{Read, Blanked}
use Rattle.kc_trace.specs.Machine.{Progress}

-- the bytes of a word that a virtual processor writes
abbrev pub data_by : GuestData → Option (List ℕ) → Option (List ℕ)
data_by Read found = found
data_by Blanked found = blanked_data found

-- the call that a line is, if it is one
abbrev pub call_by : GuestData → Option Call → Option Call
call_by Read found = found
call_by Blanked found = option_map redacted_call found

-- what is read of a piece, without the bytes that virtual processors write
abbrev pub redacted_read : Result (Progress × List Call) TraceFault → Result (Progress × List Call) TraceFault
redacted_read (Ok read) = Ok (read.0, redacted read.1)
redacted_read (Err fault) = Err fault

-- what is read of a piece
abbrev pub read_by : GuestData → Result (Progress × List Call) TraceFault → Result (Progress × List Call) TraceFault
read_by Read read = read
read_by Blanked read = redacted_read read
