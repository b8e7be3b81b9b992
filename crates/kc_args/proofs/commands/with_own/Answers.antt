use Rattle.std.proofs.lemmas.Result.{IfOk-weaker}
use Rattle.kc_args.proofs.Local.{stays_local}
use Rattle.kc_args.proofs.commands.with_own.Goals as goal

pub returns-clause-app : goal.returns-clause-app
returns-clause-app c = IfOk-weaker c.arg.result _ _ (λ r h. h.shape c.requires.arg) c.arg.ensures

pub returns-clause-local : goal.returns-clause-local
returns-clause-local c = IfOk-weaker c.arg.result _ _ (λ r h. stays_local _ _ _ h c.requires.command c.requires.arg) c.arg.ensures
