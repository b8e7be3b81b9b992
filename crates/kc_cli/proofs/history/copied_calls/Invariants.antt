use Rattle.std.proofs.Common.{◌≡◌, take}
use Rattle.kc_live.specs.Book.{calls_of}
use Rattle.kc_cli.proofs.history.copied_calls.Given as goal

abbrev pub invariant-loop-entry : goal.invariant-loop-entry
invariant-loop-entry l = l.calls.items ≡ calls_of (take l.entry-index l.entries)
