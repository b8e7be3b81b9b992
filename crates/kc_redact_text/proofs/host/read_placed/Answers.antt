use Rattle.std.proofs.Common.{◌≡◌, ◌∙◌, Err, sym, ap, subst}
use Rattle.std.specs.Prelude.{IfSome}
use Rattle.std.proofs.lemmas.Result.{err_from_is_err_and}
use Rattle.kc_trace.specs.Expected.{IsRefusedThere}
use Rattle.kc_trace.specs.declared.fault.TraceFault.{TraceFault}
use Rattle.kc_trace.specs.declared.fault.TraceFault.TheVariants.{Misplaced}
use Rattle.kc_faults.specs.declared.fault.TextFault.TheVariants as texts
use Rattle.kc_core.specs.KCore.{state_in}
use Rattle.kc_redact_text.proofs.Placed.{refused, misplaced}
use Rattle.kc_redact_text.proofs.host.read_placed.Goals as goal

pub returns-in_err-header-clause-trace : goal.returns-in_err-header-clause-trace
returns-in_err-header-clause-trace g c fault e =
    let made = err_from_is_err_and c.from_residual.result c.from_residual.ensures.1 in
    let said : Err made.0 ≡ Err (texts.Trace fault) = sym made.1 ∙ e in
    let same : made.0 ≡ texts.Trace fault = cc in
    let is = c.in_err-header.ensures.trace fault (ap Err (sym made.2 ∙ same)) in
    (refused (state_in c.args.core.now) _ c.args.expected fault is.0, is.1)

pub returns-in-Some-clause-trace : goal.returns-in-Some-clause-trace
returns-in-Some-clause-trace g c fault e =
    let same : Misplaced c.in-Some.wrong ≡ fault = cc in
    let header = c.in_ok-header in
    let is = misplaced (state_in c.args.core.now) (state_in c.read_redacted.new.core) _ c.args.expected header.header header.calls.items _ c.in-Some.wrong header.ensures.config c.in-Some.ensures header.ensures.ok in
    (subst (λ (said : TraceFault). IfSome (state_in c.args.core.now) (λ m. IfSome (g.T.Source.left c.args.trace.now) (λ text. IsRefusedThere m.config c.args.expected text said))) same is, header.ensures.ended)
