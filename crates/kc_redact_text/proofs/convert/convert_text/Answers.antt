use Rattle.std.proofs.Common.{◌≡◌, ◌∙◌, Err, sym, ap, refl}
use Rattle.std.proofs.lemmas.Result.{err_from_is_err_and, on_ok_weaker}
use Rattle.kc_faults.specs.declared.fault.TextFault.TheVariants as texts
use Rattle.kc_faults.proofs.Told.{sink_more}
use Rattle.kc_redact_text.proofs.Converts.{writes_first, begins_first}
use Rattle.kc_redact_text.proofs.convert.convert_text.Goals as goal

pub returns-in_err-head-clause-config : goal.returns-in_err-head-clause-config
returns-in_err-head-clause-config g c fault e =
    let made = err_from_is_err_and c.from_residual.result c.from_residual.ensures.1 in
    let said : Err made.0 ≡ Err (texts.Config fault) = sym made.1 ∙ e in
    let same : made.0 ≡ texts.Config fault = cc in
    let is = c.in_err-head.ensures.config fault (ap Err (sym made.2 ∙ same)) in
    (is.0, is.1, refl)

pub returns-clause-ok : goal.returns-clause-ok
returns-clause-ok g c = on_ok_weaker c.convert_under.result (λ took. writes_first _ _ _ _ c.in_ok-head.head c.in_ok-head.ensures.ok took) c.convert_under.ensures.ok

pub returns-clause-sink : goal.returns-clause-sink
returns-clause-sink g c = sink_more _ _ _ _ _ (λ begun. begins_first _ _ _ _ c.in_ok-head.head c.in_ok-head.ensures.ok begun) c.convert_under.ensures.sink
