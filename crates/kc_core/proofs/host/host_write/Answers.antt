use Rattle.std.proofs.Common.{◌≡◌, None, length, eq-eqb, refl, Err, arith}
use Rattle.kc_types.specs.declared.call.Call.TheVariants.{HostWrite}
use Rattle.kc_types.specs.declared.reply.Reply.TheVariants as reply
use Rattle.kc_model.specs.Refusals.{refusal}
use Rattle.kc_model.proofs.Refusals.Served.{IsHostAccess, host_access-served}
use Rattle.kc_parts.specs.States.{state_of}
use Rattle.kc_core.specs.Applying.{IsAble}
use Rattle.kc_core.proofs.Needed.{frame-needed}
use Rattle.kc_core.specs.declared.unserved.Unserved.TheVariants as unserved
use Rattle.kc_core.proofs.Answered.{answer-refused, answer-served}
use Rattle.kc_core.proofs.Reading.{host-done}
use Rattle.kc_core.proofs.host.host_write.Goals as goal
use Rattle.kc_core.proofs.host.host_write.Goals.{In_ok-frame}

able : (c : In_ok-frame) → IsAble c.args.config.now c.args.parts.now (HostWrite c.in_ok-frame.frame c.args.offset c.args.bytes.now)
able c = rw c.in_ok-frame.ensures.frame c.requires

served : (c : In_ok-frame) → refusal (state_of c.args.config.now c.args.parts.now) (HostWrite c.in_ok-frame.frame c.args.offset c.args.bytes.now) ≡ None
served c = rw (c.in_ok-frame.ensures.frame, ← c.as_slice.ensures.value) c.in_ok-frame.ensures.answer

seen : (c : In_ok-frame) → IsHostAccess (state_of c.args.config.now c.args.parts.now) c.in_ok-frame.frame c.args.offset (length c.args.bytes.now)
seen c = host_access-served _ _ _ _ (served c)

pub write_frame-requires-clause-here : goal.write_frame-requires-clause-here
write_frame-requires-clause-here c =
    let k = (goal.at.write_frame-requires-clause-here c).In_ok-frame in
    frame-needed _ _ _ (able k) c.in_ok-frame.frame (eq-eqb c.in_ok-frame.frame c.in_ok-frame.frame refl) (seen k).frame

pub write_frame-requires-clause-within : goal.write_frame-requires-clause-within
write_frame-requires-clause-within c = (seen (goal.at.write_frame-requires-clause-within c).In_ok-frame).within

pub returns-clause-answer : goal.returns-clause-answer
returns-clause-answer c =
    let done = c.in_ok-write_frame.ensures in
    rw (← c.in_ok-frame.ensures.frame) (answer-served c.args.config.now c.args.parts.now _ (HostWrite c.in_ok-frame.frame c.args.offset c.args.bytes.now) reply.Done (served (goal.at.returns-clause-answer c).In_ok-frame) refl done.state done.linked done.places)

pub returns-in_err-write_frame-clause-sparse : goal.returns-in_err-write_frame-clause-sparse
returns-in_err-write_frame-clause-sparse c = λ failed. host-done _ _ _ _ (rw (← c.as_slice.ensures.value) c.in_ok-frame.ensures.answer)

pub returns-in_err-frame-clause-answer : goal.returns-in_err-frame-clause-answer
returns-in_err-frame-clause-answer c =
    let is : c.from_residual.result ≡ Err (unserved.Refused c.in_err-frame.field-0.0) = grind arith in
    rw is (answer-refused _ _ _ _ c.requires.linked (rw (← c.as_slice.ensures.value) c.in_err-frame.ensures.answer))
