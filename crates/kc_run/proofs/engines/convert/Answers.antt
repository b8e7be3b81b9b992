use Rattle.std.proofs.Common.{inr, refl}
use Rattle.kc_run.proofs.Carried.{converts_first}
use Rattle.kc_run.proofs.engines.convert.Goals as goal

pub returns : goal.returns
returns g c =
    let made = c.convert_text-answer.ensures in
    rw (c.done.ensures, c.close.ensures.refused, c.in_ok-file.ensures.opened) (inr (_, record { old = c.in_ok-file.file; new = c.convert_text-answer.new.config; ready = c.in_ok-file.ensures.ready; seen_is = refl }, c.in_ok-file.ensures.bytes, converts_first _ _ c.convert_text-answer.result refl made.ok made.sources made.sink made.config made.trace made.others))
