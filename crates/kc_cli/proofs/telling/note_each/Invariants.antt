use Rattle.std.proofs.Common.{List, ◌++◌, take}
use Rattle.kc_types.specs.declared.call.Call.{Call}
use Rattle.kc_redact.specs.Witness.{HasSeen}
use Rattle.kc_trace.specs.declared.header.Header.{Header}
use Rattle.kc_cli.proofs.telling.note_each.Given as goal

-- the first calls were seen
abbrev pub invariant-loop-call : goal.invariant-loop-call
invariant-loop-call l = (header : Header) (before : List Call) → HasSeen l.fn.witness header before → HasSeen l.witness header (before ++ take l.call-index l.calls)
