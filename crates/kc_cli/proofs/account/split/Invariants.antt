use Rattle.kc_cli.proofs.Marked.{AreParts}
use Rattle.kc_cli.proofs.account.split.Given as goal

abbrev pub invariant-loop-note : goal.invariant-loop-note
invariant-loop-note l = AreParts l.yielded l.events.items l.remarks.items
