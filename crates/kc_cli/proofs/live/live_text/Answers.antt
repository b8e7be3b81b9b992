use Rattle.std.proofs.lemmas.Result.{err_from_is_err_and}
use Rattle.kc_cli.proofs.Begun.{begins_live, live_refused}
use Rattle.kc_faults.proofs.Told.{sources_err, texts_err, sink_more}
use Rattle.kc_cli.proofs.live.live_text.Goals as goal

pub returns-in_err-config-clause-sources : goal.returns-in_err-config-clause-sources
returns-in_err-config-clause-sources g c =
    let made = err_from_is_err_and c.from_residual.result c.from_residual.ensures.1 in
    rw (made.1, made.2) (sources_err _ c.in_err-config.field-0.0 c.in_err-config.ensures.sources)

pub returns-in_err-config-clause-texts : goal.returns-in_err-config-clause-texts
returns-in_err-config-clause-texts g c =
    let made = err_from_is_err_and c.from_residual.result c.from_residual.ensures.1 in
    rw (made.1, made.2) (texts_err _ _ _ _ c.in_err-config.field-0.0 c.in_err-config.ensures.texts)

pub returns-clause-sink : goal.returns-clause-sink
returns-clause-sink g c = sink_more _ _ _ _ _ (λ begun. begins_live _ _ _ _ _ _ _ c.in_ok-config.ensures.ok c.in_ok-made.ensures.sound c.in_ok-made.ensures.made.0 c.in_ok-made.ensures.made.1 begun) c.give_made.ensures.sink

pub returns-in_err-made-clause-texts : goal.returns-in_err-made-clause-texts
returns-in_err-made-clause-texts g c =
    let made = err_from_is_err_and c.from_residual-in_err-made.result c.from_residual-in_err-made.ensures.1 in
    rw (made.1, made.2) (live_refused _ _ _ _ _ c.in_err-made.field-0.0 c.in_ok-config.ensures.ok.configured c.in_ok-config.ensures.short c.in_err-made.ensures.fault)
