use Rattle.std.proofs.Common.{List, ap, ◌∙◌}
use Rattle.std.proofs.lemmas.Result.{IfOk-weaker}
use Rattle.kc_types.specs.declared.custody.Life.{Life}
use Rattle.kc_model.specs.Lives.{selected_lives}
use Rattle.kc_trace.specs.SummaryText.{summary_text_of}
use Rattle.kc_cli.proofs.account.summary_of.Goals as goal

pub returns : goal.returns
returns c =
    let subject = c.args.subject.now in
    IfOk-weaker c.summary_text.result _ _
    (λ text same frames events grown. same ∙ ap (λ (told : List Life). summary_text_of subject.heading subject.config subject.volumes.items subject.answered.calls subject.answered.denials.total c.args.attempts.now (selected_lives c.args.vm told)) (c.in_ok-lives.ensures frames events grown))
    (rw (c.as_slice.ensures.value, c.deref.ensures.value, c.select_lives.ensures) at c.summary_text.ensures)
