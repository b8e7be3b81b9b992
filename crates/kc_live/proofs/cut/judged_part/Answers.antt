use Rattle.kc_live.proofs.Judged.{judged-up-to}
use Rattle.kc_live.proofs.cut.judged_part.Goals as goal

pub returns-in-Some : goal.returns-in-Some
returns-in-Some c = rw c.truncate.ensures.items (judged-up-to c.args.config.now c.args.calls.items c.in-Some.at (rw c.as_slice.ensures.value at c.in-Some.ensures))
