use Rattle.std.proofs.Common.{◌≡◌, ◌∙◌, Err, sym, ap}
use Rattle.std.proofs.lemmas.Result.{err_from_is_err_and}
use Rattle.kc_texts.proofs.Fed.{ends_a_trace, ends_refused}
use Rattle.kc_faults.specs.declared.fault.TextFault.TheVariants as texts
use Rattle.kc_core.specs.KCore.{state_in}
use Rattle.kc_redact_text.specs.Reading.{stream_of}
use Rattle.kc_redact_text.specs.Made.{config_of}
use Rattle.kc_redact_text.proofs.Made.{config-made}
use Rattle.kc_redact_text.proofs.Taken.{whole_read, read_is}
use Rattle.kc_redact_text.proofs.reading.read_redacted.Goals as goal

pub returns-in_err-take_rest-clause-read : goal.returns-in_err-take_rest-clause-read
returns-in_err-take_rest-clause-read g c e =
    let made = err_from_is_err_and c.from_residual.result c.from_residual.ensures.1 in
    let said : Err made.0 ≡ Err texts.Read = sym made.1 ∙ e in
    let same : made.0 ≡ texts.Read = cc in
    c.in_err-take_rest.ensures.read (ap Err (read_is c.in_err-take_rest.field-0.0 (sym made.2 ∙ same))) _ _ _ (c.new-redacting.ensures.read _)

pub returns-in-Ok-clause-ok : goal.returns-in-Ok-clause-ok
returns-in-Ok-clause-ok g c =
    whole_read _ _ _ _ c.in-Ok.header c.new-redacting.result c.take_rest.new.self c.new-redacting.ensures.read c.new-redacting.ensures.calls c.new-redacting.ensures.counted
    c.in_ok-take_rest.ensures.ok c.in_ok-take_rest.ensures.ended
    (rw c.in-Ok.is at (ends_a_trace (stream_of c.take_rest.new.self) c.finish.result c.finish.ensures.fault))

pub returns-in-Ok-clause-config : goal.returns-in-Ok-clause-config
returns-in-Ok-clause-config g c =
    let on = c.in_ok-take_rest.ensures.ok in
    ap config_of on.3 ∙ config-made (state_in c.args.core.now) on.0

pub returns-in-Err-clause-trace : goal.returns-in-Err-clause-trace
returns-in-Err-clause-trace g c fault e =
    let same : c.in-Err.fault ≡ fault = cc in
    let more = c.in_ok-take_rest.ensures.ok.2 _ _ _ (c.new-redacting.ensures.read _) in
    (ends_refused (stream_of c.take_rest.new.self) c.finish.result fault c.finish.ensures.fault (c.in-Err.is ∙ ap Err same) _ _ _ _ more.1 c.in_ok-take_rest.ensures.ended, c.in_ok-take_rest.ensures.ended)
