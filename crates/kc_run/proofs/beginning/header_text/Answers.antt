use Rattle.std.proofs.Common.{Err, ap}
use Rattle.std.proofs.lemmas.Result.{err_from_is_err_and}
use Rattle.kc_run.proofs.Unseen.{unseen}
use Rattle.kc_run.proofs.beginning.header_text.Goals as goal

pub returns-in_err-head-clause-fault : goal.returns-in_err-head-clause-fault
returns-in_err-head-clause-fault g c =
    let made = err_from_is_err_and c.from_residual.result c.from_residual.ensures.1 in
    rw (made.1, made.2) (unseen _ c.in_err-head.field-0.0 (λ e. c.in_err-head.ensures.memory (ap Err e)) (λ e. c.in_err-head.ensures.read (ap Err e)))
