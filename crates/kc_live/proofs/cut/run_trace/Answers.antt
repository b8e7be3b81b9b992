use Rattle.kc_live.proofs.Cuts.{keeps-orders}
use Rattle.kc_live.proofs.Judged.{judged-whole, stops-trace, left-of}
use Rattle.kc_live.proofs.cut.run_trace.Goals as goal

pub returns-in-Err-clause-stop : goal.returns-in-Err-clause-stop
returns-in-Err-clause-stop g c =
    stops-trace c.args.config c.args.calls.items c.judged_part-part.result.items c.in-Ok.programs.items c.in-Err.stop.cause c.judged_part-part.ensures c.in-Ok.ensures c.in-Err.ensures.stop

pub returns-in-Ok-run_live-clause-order : goal.returns-in-Ok-run_live-clause-order
returns-in-Ok-run_live-clause-order g c =
    rw (c.history_of.ensures, judged-whole c.args.config c.args.calls.items c.judged_part-part.result.items c.in-Ok.programs.items c.judged_part-part.ensures c.in-Ok.ensures c.in-Ok-run_live.ensures.sound.known)
    (keeps-orders c.in-Ok-run_live.answer.0.log.entries c.in-Ok.programs.items c.judged_part-part.result.items c.in-Ok.ensures c.in-Ok-run_live.ensures.calls c.in-Ok-run_live.ensures.others)

pub returns-in-Ok-run_live-clause-sound : goal.returns-in-Ok-run_live-clause-sound
returns-in-Ok-run_live-clause-sound g c = (
  c.in-Ok.programs.items,
  rw (judged-whole c.args.config c.args.calls.items c.judged_part-part.result.items c.in-Ok.programs.items c.judged_part-part.ensures c.in-Ok.ensures c.in-Ok-run_live.ensures.sound.known) c.in-Ok.ensures,
  c.in-Ok-run_live.ensures.sound,
)

pub returns-in-Err-clause-left : goal.returns-in-Err-clause-left
returns-in-Err-clause-left g c =
    left-of c.args.config c.args.calls.items c.judged_part-part.result.items c.in-Ok.programs.items c.in-Err.stop.cause c.in-Err.stop.is_settled c.in-Err.stop.history
    c.judged_part-part.ensures c.in-Ok.ensures c.in-Err.ensures.stop c.in-Err.ensures.history c.in-Err.ensures.left
