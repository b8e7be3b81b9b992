use Rattle.std.proofs.Common.{◌≡◌, ◌∙◌, Err, sym, ap}
use Rattle.std.proofs.lemmas.Result.{err_from_is_err_and, on_ok_weaker}
use Rattle.kc_faults.specs.declared.fault.TextFault.TheVariants as texts
use Rattle.kc_faults.proofs.Told.{sink_more}
use Rattle.kc_redact_text.proofs.Given.{redacts, begins}
use Rattle.kc_redact_text.proofs.engine.redact_text.Goals as goal

pub returns-clause-ok : goal.returns-clause-ok
returns-clause-ok g c =
    on_ok_weaker c.give_redacted.result (λ given. redacts _ _ _ c.in_ok-header.header c.in_ok-header.calls.items _ c.in_ok-header.ensures.ok given) c.give_redacted.ensures.ok

pub returns-clause-sink : goal.returns-clause-sink
returns-clause-sink g c =
    sink_more _ _ _ _ _ (λ begun. begins _ _ _ c.in_ok-header.header c.in_ok-header.calls.items _ c.in_ok-header.ensures.ok begun) c.give_redacted.ensures.sink

pub returns-in_err-header-clause-trace : goal.returns-in_err-header-clause-trace
returns-in_err-header-clause-trace g c fault e =
    let made = err_from_is_err_and c.from_residual.result c.from_residual.ensures.1 in
    let said : Err made.0 ≡ Err (texts.Trace fault) = sym made.1 ∙ e in
    let same : made.0 ≡ texts.Trace fault = cc in
    c.in_err-header.ensures.trace fault (ap Err (sym made.2 ∙ same))
