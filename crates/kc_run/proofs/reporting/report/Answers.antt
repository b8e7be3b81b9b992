use Rattle.std.proofs.Common.{inl, inr, refl, ap, ◌∙◌, Some}
use Rattle.std.proofs.lemmas.Result.{err_from_is_err_and}
use Rattle.kc_run.proofs.Unread.{reports_less}
use Rattle.kc_run.proofs.reporting.report.Goals as goal

pub returns-in_err-text : goal.returns-in_err-text
returns-in_err-text g c =
    let made = err_from_is_err_and c.from_residual.result c.from_residual.ensures.1 in
    rw (← c.path.ensures, c.in_default.is, made.1, made.2) (inl record { fault = _; ended_is = refl; reading = c.in_err-text.ensures.fault; opened = c.requires.files; untouched = refl })

pub returns-in_default : goal.returns-in_default
returns-in_default g c = rw (← c.path.ensures, c.in_default.is) (inr record {
  had = _;
  same = c.in_ok-text.ensures.same;
  source = _;
  start = record { text = c.in_ok-text.text.items; had_is = ap Some (c.new-start.ensures ∙ c.deref.ensures.value); ready = refl; spells = c.in_ok-text.ensures.text };
  runs = reports_less _ _ _ _ _ _ _ _ (ap g.T.Source.left) c.report_from.ensures;
})

pub returns : goal.returns
returns g c =
    rw (← c.path.ensures, c.in-Some.is, c.close.ensures.refused) (inr (_, record { old = c.in_ok-file.file; new = c.report_from-ended.new.start; ready = c.in_ok-file.ensures.ready; seen_is = refl }, c.in_ok-file.ensures.bytes, rw c.in_ok-file.ensures.same at c.report_from-ended.ensures))
