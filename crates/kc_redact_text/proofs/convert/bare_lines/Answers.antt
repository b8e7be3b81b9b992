use Rattle.std.proofs.Common.{◌≡◌, ◌∙◌, Err, sym, ap}
use Rattle.std.proofs.lemmas.Result.{err_from_is_err_and}
use Rattle.kc_faults.specs.declared.fault.TextFault.TheVariants as texts
use Rattle.kc_redact_text.proofs.Converts.{judged_bare}
use Rattle.kc_redact_text.proofs.convert.bare_lines.Goals as goal

pub returns-in_err-judge-clause-trace : goal.returns-in_err-judge-clause-trace
returns-in_err-judge-clause-trace c fault e =
    let made = err_from_is_err_and c.from_residual.result c.from_residual.ensures.1 in
    let said : Err made.0 ≡ Err (texts.Trace fault) = sym made.1 ∙ e in
    let same : made.0 ≡ texts.Trace fault = cc in
    judged_bare c.args.text.now fault (c.in_err-judge.ensures.trace fault (ap Err (sym made.2 ∙ same)))
