use Rattle.std.proofs.Common.{inl, inr, refl, ap, ◌∙◌, Some, Ok}
use Rattle.std.proofs.lemmas.Result.{err_from_is_err_and}
use Rattle.kc_faults.proofs.Told.{texts_unread}
use Rattle.kc_run.proofs.Carried.{redacts_host}
use Rattle.kc_run.proofs.engines.redact_host.Goals as goal

pub returns-in_err-text : goal.returns-in_err-text
returns-in_err-text g c =
    let made = err_from_is_err_and c.from_residual.result c.from_residual.ensures.1 in
    rw (← c.path.ensures, c.in_default.is, made.1, made.2) (inl record { fault = _; ended_is = refl; reading = c.in_err-text.ensures.fault; opened = c.requires.files; untouched = refl })

pub returns-in_default-2 : goal.returns-in_default-2
returns-in_default-2 g c =
    rw (← c.path.ensures, c.in_default.is) (inr (inl record { same = c.in_ok-text.ensures.same; none = c.in_ok-text.ensures.none (ap Ok c.in_default-2.is); ended_is = refl; ready = c.in_ok-text.ensures.ready; opened = c.requires.files; untouched = refl }))

pub returns-in_default : goal.returns-in_default
returns-in_default g c =
    let done = c.redact_host_text.ensures in
    rw (← c.path.ensures, c.in_default.is, c.counted.ensures, ← c.origin-origin.ensures) (inr (inr record {
      had = _;
      same = c.in_ok-text.ensures.same;
      source = _;
      start = record { text = c.in-Some-2.text.items; had_is = ap Some (c.new-start.ensures ∙ c.deref.ensures.value); ready = refl; spells = rw c.in-Some-2.is at c.in_ok-text.ensures.found };
      runs = redacts_host _ _ _ c.redact_host_text.result c.requires.files done.answered done.ok done.sources (texts_unread _ _ _ _ _ _ (ap g.T.Source.left) done.texts) done.sink done.others;
    }))

pub returns : goal.returns
returns g c =
    let done = c.redact_host_text-answer.ensures in
    rw (← c.path.ensures, c.in-Some.is, c.counted-2.ensures, c.close.ensures.refused, c.in_ok-file.ensures.opened, ← c.origin-origin.ensures) (inr (_, record { old = c.in_ok-file.file; new = c.redact_host_text-answer.new.start; ready = c.in_ok-file.ensures.ready; seen_is = refl }, c.in_ok-file.ensures.bytes, redacts_host _ _ _ c.redact_host_text-answer.result refl done.answered done.ok done.sources done.texts done.sink done.others))
