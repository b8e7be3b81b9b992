use Rattle.std.proofs.Common.{◌∙◌}
use Rattle.std.proofs.lemmas.Result.{err_from_is_err_and}
use Rattle.kc_faults.proofs.Told.{sources_err, texts_err}
use Rattle.kc_cli.proofs.Sources.{sink_err}
use Rattle.kc_cli.proofs.Replayed.{gives, begins}
use Rattle.kc_cli.proofs.replaying.replay_text.Goals as goal

pub returns-in_err-made-clause-texts : goal.returns-in_err-made-clause-texts
returns-in_err-made-clause-texts g c =
    let made = err_from_is_err_and c.from_residual.result c.from_residual.ensures.1 in
    rw (made.1, made.2) (texts_err _ _ _ _ c.in_err-made.field-0.0 c.in_err-made.ensures.texts)

pub returns-in_err-made-clause-sources : goal.returns-in_err-made-clause-sources
returns-in_err-made-clause-sources g c =
    let made = err_from_is_err_and c.from_residual.result c.from_residual.ensures.1 in
    rw (made.1, made.2) (sources_err _ c.in_err-made.field-0.0 c.in_err-made.ensures.sources)

pub returns-in_err-give_replayed-clause-sink : goal.returns-in_err-give_replayed-clause-sink
returns-in_err-give_replayed-clause-sink g c =
    let made = err_from_is_err_and c.from_residual-in_err-give_replayed.result c.from_residual-in_err-give_replayed.ensures.1 in
    rw (made.1, made.2) (sink_err _ _ _ _ c.in_err-give_replayed.field-0.0 (λ begun. begins _ _ _ _ _ _ _ _ _ _ _ _ (λ asked. c.is_placed.ensures ∙ asked) c.in_ok-made.ensures.ok begun) (rw c.left_as.ensures at c.in_err-give_replayed.ensures.sink))

pub returns-clause-ok : goal.returns-clause-ok
returns-clause-ok g c = gives _ _ _ _ _ _ _ _ _ _ _ _ (λ asked. c.is_placed.ensures ∙ asked) c.in_ok-made.ensures.ok (rw c.left_as.ensures at c.in_ok-give_replayed.ensures.ok)
