use Rattle.std.proofs.Common.{◌≡◌, Err, sym, subst, ◌∙◌}
use Rattle.std.proofs.lemmas.Result.{err_from_is_err_and}
use Rattle.kc_state_text.specs.declared.fault.StateFault.{StateFault}
use Rattle.kc_state_text.specs.Refused.{IsRefusedPlaced}
use Rattle.kc_faults.specs.declared.fault.TextFault.TheVariants as texts
use Rattle.kc_faults.proofs.Faulted.{state_said}
use Rattle.kc_cli.proofs.starting.start_in.Goals as goal

pub returns-in_err-read-clause-state : goal.returns-in_err-read-clause-state
returns-in_err-read-clause-state g c = λ fault e.
    let made = err_from_is_err_and c.from_residual.result c.from_residual.ensures.1 in
    let same : made.0 ≡ texts.State fault = (let both = sym made.1 ∙ e in cc) in
    subst (λ (said : StateFault). IsRefusedPlaced c.args.text.now said) (state_said c.in_err-read.field-0.0 fault (sym made.2 ∙ same)) c.in_err-read.ensures.refused
