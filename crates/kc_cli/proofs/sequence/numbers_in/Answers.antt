use Rattle.std.proofs.Common.{rules}
use Rattle.kc_cli.proofs.Ends.{ends_are}
use Rattle.kc_cli.proofs.sequence.numbers_in.Goals as goal

pub returns-in_err-last-2 : goal.returns-in_err-last-2
returns-in_err-last-2 c = rw (ends_are _ _ _ c.in_ok-first.ensures.value c.in_ok-last.ensures.value) (search rules)

pub returns : goal.returns
returns c = rw (ends_are _ _ _ c.in_ok-first.ensures.value c.in_ok-last.ensures.value) (search rules)
