use Rattle.std.proofs.Common.{◌≡◌, refl, ap, Err}
use Rattle.std.proofs.lemmas.Result.{err_from_is_err_and}
use Rattle.kc_faults.specs.declared.fault.TextFault.TheVariants as texts
use Rattle.kc_faults.proofs.Told.{texts_err}
use Rattle.kc_cli.proofs.Sources.{sources_with, sources_last, sink_err}
use Rattle.kc_cli.proofs.Replayed.{gives, begins, left_text}
use Rattle.kc_cli.proofs.replaying.replay_to_text.Goals as goal

pub returns-in_err-made-clause-texts : goal.returns-in_err-made-clause-texts
returns-in_err-made-clause-texts g c =
    let made = err_from_is_err_and c.from_residual.result c.from_residual.ensures.1 in
    rw (made.1, made.2) (texts_err _ _ _ _ c.in_err-made.field-0.0 c.in_err-made.ensures.texts)

pub returns-in_err-made-clause-sources : goal.returns-in_err-made-clause-sources
returns-in_err-made-clause-sources g c =
    let made = err_from_is_err_and c.from_residual.result c.from_residual.ensures.1 in
    rw (made.1, made.2) (sources_with _ _ _ c.in_err-made.field-0.0 c.in_err-made.ensures.sources c.requires.to)

pub returns-in-Err-clause-sources : goal.returns-in-Err-clause-sources
returns-in-Err-clause-sources g c = sources_last _ _ _ _ c.in-Err.fault c.in_ok-made.ensures.sources (λ e. c.in-Err.ensures.read (ap Err e)) (λ bad. let e = c.in-Err.ensures.source bad in let same : c.in-Err.fault ≡ texts.Read = cc in same)

pub returns-in_err-give_replayed-clause-sink : goal.returns-in_err-give_replayed-clause-sink
returns-in_err-give_replayed-clause-sink g c =
    let made = err_from_is_err_and c.from_residual-in_err-give_replayed.result c.from_residual-in_err-give_replayed.ensures.1 in
    rw (made.1, made.2) (sink_err _ _ _ _ c.in_err-give_replayed.field-0.0 (λ begun. begins _ _ _ _ _ _ _ _ _ _ _ _ (λ asked. refl) c.in_ok-made.ensures.ok begun) (rw c.left_as-made.ensures at c.in_err-give_replayed.ensures.sink))

pub returns-clause-ok : goal.returns-clause-ok
returns-clause-ok g c = gives _ _ _ _ _ _ _ _ _ _ _ _ (λ asked. refl) c.in_ok-made.ensures.ok (rw c.left_as-made.ensures at c.in_ok-give_replayed.ensures.ok)

pub returns-clause-difference : goal.returns-clause-difference
returns-clause-difference g c = left_text _ _ _ _ _ _ _ _ _ _ _ c.in_ok-made.ensures.ok (rw c.left_as-made.ensures at c.in-Ok.ensures.ok)
