use Rattle.std.proofs.Common.{◌≡◌, ◌∙◌, Err, List, ℕ, sym, ap}
use Rattle.std.proofs.lemmas.Result.{err_from_is_err_and, on_ok_weaker}
use Rattle.kc_faults.specs.declared.fault.TextFault.TheVariants as texts
use Rattle.kc_faults.proofs.Told.{sink_more}
use Rattle.kc_cli.proofs.Sources.{of_whole}
use Rattle.kc_redact_text.specs.Converts.{IsRefusedBare, AreLines}
use Rattle.kc_redact_text.proofs.Converts.{took_under, begun_under}
use Rattle.kc_redact_text.proofs.convert.convert_under.Goals as goal

pub returns-in_err-lines-clause-trace : goal.returns-in_err-lines-clause-trace
returns-in_err-lines-clause-trace g c fault e =
    let made = err_from_is_err_and c.from_residual-in_err-lines.result c.from_residual-in_err-lines.ensures.1 in
    let said : Err made.0 ≡ Err (texts.Trace fault) = sym made.1 ∙ e in
    let same : made.0 ≡ texts.Trace fault = cc in
    let text = c.in_ok-text in
    let is = rw c.as_slice.ensures at (c.in_err-lines.ensures.trace fault (ap Err (sym made.2 ∙ same))) in
    (of_whole (λ (held : List ℕ). IsRefusedBare held fault) _ _ text.text text.ensures.ok text.ensures.ended is, text.ensures.ended)

pub returns-clause-ok : goal.returns-clause-ok
returns-clause-ok g c =
    let text = c.in_ok-text in
    let are : AreLines text.text c.in_ok-lines.lines.now = rw c.as_slice.ensures at c.in_ok-lines.ensures.ok in
    on_ok_weaker c.give_under.result (λ given. took_under c.args.head _ _ text.text _ _ _ text.ensures.ok text.ensures.ended are given) c.give_under.ensures.ok

pub returns-clause-sink : goal.returns-clause-sink
returns-clause-sink g c =
    let text = c.in_ok-text in
    let are : AreLines text.text c.in_ok-lines.lines.now = rw c.as_slice.ensures at c.in_ok-lines.ensures.ok in
    sink_more _ _ _ _ _ (λ begun. begun_under c.args.head _ _ text.text _ _ _ text.ensures.ok text.ensures.ended are begun) c.give_under.ensures.sink
