use Rattle.std.proofs.Common.{◌≡◌, Err, ap, sym, ◌∙◌}
use Rattle.std.proofs.lemmas.Result.{err_from_is_err_and}
use Rattle.kc_state_text.specs.Refused.{IsRefusedPlaced}
use Rattle.kc_faults.specs.declared.fault.TextFault.TheVariants as texts
use Rattle.kc_cli.proofs.Sources.{of_whole}
use Rattle.kc_cli.proofs.starting.read_core.Goals as goal

pub returns-in_err-core-clause-state : goal.returns-in_err-core-clause-state
returns-in_err-core-clause-state g c = λ fault e.
    let made = err_from_is_err_and c.from_residual-in_err-core.result c.from_residual-in_err-core.ensures.1 in
    let same : c.in_err-core.field-0.0 ≡ texts.State fault = (let both = ap Err (sym made.2) ∙ sym made.1 ∙ e in cc) in
    (of_whole (λ text. IsRefusedPlaced text fault) _ _ _ c.in_ok-text.ensures.ok c.in_ok-text.ensures.ended (rw c.as_slice.ensures at (c.in_err-core.ensures.state fault (ap Err same))), c.in_ok-text.ensures.ended)

pub returns-clause-digest : goal.returns-clause-digest
returns-clause-digest g c = c.in_ok-digest.ensures.digest (g.C.Source.left c.args.start.now)
