use Rattle.std.proofs.Common.{refl, ◌∙◌}
use Rattle.std.proofs.lemmas.Result.{err_from_is_err_and}
use Rattle.kc_cli.proofs.Sources.{sink_err}
use Rattle.kc_faults.proofs.Told.{sources_err, texts_err}
use Rattle.kc_redact_text.proofs.Given.{answers_host, writes_host, begins_host}
use Rattle.kc_redact_text.proofs.host.redact_host_text.Goals as goal

pub returns-in_err-header-clause-sources : goal.returns-in_err-header-clause-sources
returns-in_err-header-clause-sources g c =
    let made = err_from_is_err_and c.from_residual.result c.from_residual.ensures.1 in
    rw (made.1, made.2) (sources_err _ c.in_err-header.field-0.0 c.in_err-header.ensures.sources)

pub returns-in_err-header-clause-texts : goal.returns-in_err-header-clause-texts
returns-in_err-header-clause-texts g c =
    let made = err_from_is_err_and c.from_residual.result c.from_residual.ensures.1 in
    rw (made.1, made.2) (texts_err _ _ _ _ c.in_err-header.field-0.0 c.in_err-header.ensures.texts)

pub returns-clause-answered : goal.returns-clause-answered
returns-clause-answered g c = answers_host _ _ _ c.in_ok-header.header c.in_ok-header.calls.items c.in_ok-header.denials _ c.in_ok-header.ensures.ok (c.len.ensures ∙ c.in_ok-header.calls.ok.0) refl

pub returns-clause-ok : goal.returns-clause-ok
returns-clause-ok g c = writes_host _ _ _ _ _ c.in_ok-header.header c.in_ok-header.calls.items _ c.in_ok-header.ensures.ok (rw c.host_redacted.ensures at c.in_ok-give_redacted.ensures.ok)

pub returns-in_err-give_redacted-clause-sink : goal.returns-in_err-give_redacted-clause-sink
returns-in_err-give_redacted-clause-sink g c =
    let made = err_from_is_err_and c.from_residual-in_err-give_redacted.result c.from_residual-in_err-give_redacted.ensures.1 in
    rw (made.1, made.2) (sink_err _ _ _ _ c.in_err-give_redacted.field-0.0 (λ begun. begins_host _ _ _ _ _ c.in_ok-header.header c.in_ok-header.calls.items _ c.in_ok-header.ensures.ok begun) (rw c.host_redacted.ensures at c.in_err-give_redacted.ensures.sink))
