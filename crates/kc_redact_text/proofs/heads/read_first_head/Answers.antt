use Rattle.std.proofs.Common.{◌≡◌, ◌∙◌, Err, sym, ap}
use Rattle.std.proofs.lemmas.Result.{err_from_is_err_and}
use Rattle.kc_faults.specs.declared.fault.TextFault.TheVariants as texts
use Rattle.kc_redact_text.proofs.Converts.{first_is}
use Rattle.kc_redact_text.proofs.heads.read_first_head.Goals as goal

pub returns-in_err-config-clause-config : goal.returns-in_err-config-clause-config
returns-in_err-config-clause-config g c fault e =
    let made = err_from_is_err_and c.from_residual.result c.from_residual.ensures.1 in
    let said : Err made.0 ≡ Err (texts.Config fault) = sym made.1 ∙ e in
    let same : made.0 ≡ texts.Config fault = cc in
    c.in_err-config.ensures.config fault (ap Err (sym made.2 ∙ same))

pub returns-clause-ok : goal.returns-clause-ok
returns-clause-ok g c = first_is _ _ c.in_ok-config.ensures.ok c.frames-frames.ensures.kept
