use Rattle.std.proofs.Common.{◌≡◌, ◌∙◌, Err, sym, ap}
use Rattle.std.proofs.lemmas.Result.{err_from_is_err_and}
use Rattle.kc_faults.specs.declared.fault.TextFault.TheVariants as texts
use Rattle.kc_redact_text.proofs.Converts.{next_is, all_refused_last}
use Rattle.kc_redact_text.proofs.heads.read_next_head.Goals as goal

pub returns-in_err-header-clause-trace : goal.returns-in_err-header-clause-trace
returns-in_err-header-clause-trace g c fault e =
    let made = err_from_is_err_and c.from_residual.result c.from_residual.ensures.1 in
    let said : Err made.0 ≡ Err (texts.Trace fault) = sym made.1 ∙ e in
    let same : made.0 ≡ texts.Trace fault = cc in
    let is = c.in_err-header.ensures.trace fault (ap Err (sym made.2 ∙ same)) in
    (all_refused_last _ fault is.0, is.1)

pub returns-in-Ok-next_head-clause-ok : goal.returns-in-Ok-next_head-clause-ok
returns-in-Ok-next_head-clause-ok g c =
    let header = c.in_ok-header in
    next_is _ header.header header.calls.items _ c.in-Ok.digest c.in-Ok-next_head.head header.ensures.ok (rw c.deref.ensures.value at c.in-Ok.ensures) c.in-Ok-next_head.ensures
