use Rattle.std.proofs.Common.{Err, ap, refl}
use Rattle.std.proofs.lemmas.Result.{err_from_is_err_and}
use Rattle.kc_model.specs.Boot.{boot}
use Rattle.kc_trace.specs.declared.expected.Expected.TheVariants.{First}
use Rattle.kc_texts.specs.declared.order.Origin.TheVariants as origins
use Rattle.kc_faults.proofs.Faulted.{trace_said, stream_config, stream_state, stream_told}
use Rattle.kc_faults.proofs.Told.{boots, texts_ok, texts_start, texts_trace, texts_misplaced}
use Rattle.kc_faults.proofs.Placed.{is_there, misplaced_there, known_refused_there}
use Rattle.kc_cli.proofs.reading.read_both.Goals as goal

pub returns-in_err-config-clause-texts : goal.returns-in_err-config-clause-texts
returns-in_err-config-clause-texts g c =
    let made = err_from_is_err_and c.from_residual.result c.from_residual.ensures.1 in
    rw (made.1, made.2) (texts_start _ _ _ _ c.in_err-config.field-0.0 (λ said same. let is = c.in_err-config.ensures.config said (ap Err same) in (refl, is.0, is.1)) (λ said same. absurd (c.in_err-config.ensures.fault.state said same)) c.in_err-config.ensures.fault.start refl)

pub returns-in_err-read-clause-texts : goal.returns-in_err-read-clause-texts
returns-in_err-read-clause-texts g c =
    let made = err_from_is_err_and c.from_residual-in_err-read.result c.from_residual-in_err-read.ensures.1 in
    let fault = c.in_err-read.field-0.0 in
    rw (made.1, made.2) (texts_trace _ _ _ _ _ First _ (boots _ c.in_ok-config.config c.in_ok-config.ensures.ok) (λ said same. let is = c.in_err-read.ensures.trace said (ap Err (trace_said fault said same)) in (known_refused_there (boot c.in_ok-config.config).config First _ said is.0, is.1)) (stream_config fault) (stream_state fault) (stream_told fault (λ e. c.in_err-read.ensures.told (ap Err e))))

pub returns-in-Some-clause-texts : goal.returns-in-Some-clause-texts
returns-in-Some-clause-texts g c =
    let begins = boots _ c.in_ok-config.config c.in_ok-config.ensures.ok in
    texts_misplaced _ _ _ _ _ First c.in-Some.wrong begins (misplaced_there _ First c.in_ok-read.read.header _ c.in_ok-read.read.calls.items c.in-Some.wrong c.in_ok-read.ensures.ok c.in-Some.ensures) c.in_ok-read.ensures.ended

pub returns-clause-texts : goal.returns-clause-texts
returns-clause-texts g c = texts_ok _ _ _ _ _ First _ (boots _ c.in_ok-config.config c.in_ok-config.ensures.ok)
