use Rattle.std.proofs.Common.{◌∙◌, Err, ap, refl, sym}
use Rattle.std.proofs.lemmas.Result.{err_from_is_err_and}
use Rattle.kc_faults.proofs.Told.{texts_start}
use Rattle.kc_cli.proofs.Volumes.{none_told, begins_there}
use Rattle.kc_cli.proofs.custody.CustodyAccountAccount.begin.Goals as goal

pub returns-in_err-begun-clause-texts : goal.returns-in_err-begun-clause-texts
returns-in_err-begun-clause-texts g c =
    let made = err_from_is_err_and c.from_residual.result c.from_residual.ensures.1 in
    λ trace. rw (made.1, made.2) (texts_start _ _ _ _ c.in_err-begun.field-0.0 (λ said same. c.in_err-begun.ensures.config said (ap Err same)) (λ said same. c.in_err-begun.ensures.state said (ap Err same)) c.in_err-begun.ensures.fault tt)

pub returns-clause-ok : goal.returns-clause-ok
returns-clause-ok g c = (
  c.in_ok-begun.begun.core.state,
  begins_there c.args.order _ c.in_ok-begun.begun.core.state _ c.in_ok-begun.begun.expected c.new-2.ensures.first c.in_ok-begun.ensures.ok (rw c.names_start-is_named.ensures at c.in_ok-begun.ensures.digest),
  none_told c.args.order _ (c.new-2.ensures.next ∙ sym c.new-2.ensures.first) c.in_ok-begun.ensures.lawful refl c.new-2.ensures.none c.in-Ok.ensures,
)
