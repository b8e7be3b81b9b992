use Rattle.std.proofs.Common.{inr, refl}
use Rattle.kc_run.proofs.Carried.{converts_after}
use Rattle.kc_run.proofs.engines.convert_after.Goals as goal

pub returns : goal.returns
returns g c =
    let made = c.convert_after_text-answer.ensures in
    rw (c.converted.ensures, c.close.ensures.refused, c.in_ok-file.ensures.opened) (inr (_, record { old = c.in_ok-file.file; new = c.convert_after_text-answer.new.before; ready = c.in_ok-file.ensures.ready; seen_is = refl }, c.in_ok-file.ensures.bytes, converts_after _ _ c.convert_after_text-answer.result refl made.ok made.read made.failed made.sink made.others))
