use Rattle.std.proofs.Common.{Err, ap, refl}
use Rattle.std.proofs.lemmas.Result.{err_from_is_err_and}
use Rattle.kc_faults.proofs.Told.{texts_start}
use Rattle.kc_redact_text.proofs.Placed.{texts_read}
use Rattle.kc_redact_text.proofs.host.read_both.Goals as goal

pub returns-in_err-begun-clause-texts : goal.returns-in_err-begun-clause-texts
returns-in_err-begun-clause-texts g c =
    let made = err_from_is_err_and c.from_residual.result c.from_residual.ensures.1 in
    rw (made.1, made.2) (texts_start _ _ _ _ c.in_err-begun.field-0.0 (λ said same. c.in_err-begun.ensures.config said (ap Err same)) (λ said same. c.in_err-begun.ensures.state said (ap Err same)) c.in_err-begun.ensures.fault (refl {a = c.args.trace.now}))

pub returns-clause-texts : goal.returns-clause-texts
returns-clause-texts g c =
    let begun = c.in_ok-begun in
    texts_read _ _ _ _ begun.begun.core.state begun.begun.expected c.read_made.result begun.ensures.ok c.read_made.ensures.trace c.read_made.ensures.fault
