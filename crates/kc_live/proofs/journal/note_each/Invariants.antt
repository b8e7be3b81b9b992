use Rattle.std.proofs.Common.{List, ◌++◌, take}
use Rattle.kc_types.specs.declared.call.Call.{Call}
use Rattle.kc_trace.specs.declared.header.Header.{Header}
use Rattle.kc_live.specs.Book.{calls_of}
use Rattle.kc_redact.specs.Witness.{HasSeen}
use Rattle.kc_live.proofs.journal.note_each.Given as goal

-- the calls of the first entries were seen
abbrev pub invariant-loop-entry : goal.invariant-loop-entry
invariant-loop-entry l = (header : Header) (calls : List Call) → HasSeen l.fn.witness header calls → HasSeen l.witness header (calls ++ calls_of (take l.entry-index l.entries))
