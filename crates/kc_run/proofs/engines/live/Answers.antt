use Rattle.std.proofs.Common.{inl, inr, refl, ap, ◌∙◌, Some}
use Rattle.std.proofs.lemmas.Result.{err_from_is_err_and}
use Rattle.kc_faults.proofs.Told.{texts_unread}
use Rattle.kc_run.proofs.Carried.{runs_live}
use Rattle.kc_run.proofs.engines.live.Goals as goal

pub returns-in_err-text : goal.returns-in_err-text
returns-in_err-text g c =
    let made = err_from_is_err_and c.from_residual.result c.from_residual.ensures.1 in
    rw (c.in_default.is, made.1, made.2) (inl record { fault = _; ended_is = refl; reading = c.in_err-text.ensures.fault; opened = c.requires.files; untouched = refl })

pub returns-in_default : goal.returns-in_default
returns-in_default g c =
    let done = c.live_text.ensures in
    rw (c.in_default.is, c.done.ensures) (inr record {
      had = _;
      same = c.in_ok-text.ensures.same;
      source = _;
      start = record { text = c.in_ok-text.text.items; had_is = ap Some (c.new-start.ensures ∙ c.deref.ensures.value); ready = refl; spells = c.in_ok-text.ensures.text };
      runs = runs_live _ _ _ c.live_text.result c.requires.files done.ok done.sources (texts_unread _ _ _ _ _ _ (ap g.T.Source.left) done.texts) done.sink done.workers done.actor done.slot done.text done.started done.unsettled;
    })

pub returns : goal.returns
returns g c =
    let done = c.live_text-answer.ensures in
    rw (c.in-Some.is, c.done-2.ensures, c.close.ensures.refused, c.in_ok-file.ensures.opened) (inr (_, record { old = c.in_ok-file.file; new = c.live_text-answer.new.config; ready = c.in_ok-file.ensures.ready; seen_is = refl }, c.in_ok-file.ensures.bytes, runs_live _ _ _ c.live_text-answer.result refl done.ok done.sources done.texts done.sink done.workers done.actor done.slot done.text done.started done.unsettled))
