use Rattle.std.proofs.Common.{◌≡◌, ◌+◌, None, slice_range, eq-eqb, refl, sym, ap, ◌∙◌, Err, arith}
use Rattle.kc_types.specs.declared.call.Call.TheVariants.{HostRead}
use Rattle.kc_types.specs.declared.reply.Reply.TheVariants as reply
use Rattle.kc_model.specs.State.{Frame}
use Rattle.kc_model.specs.Refusals.{refusal}
use Rattle.kc_model.proofs.Refusals.Served.{IsHostAccess, host_access-served}
use Rattle.kc_parts.specs.States.{state_of}
use Rattle.kc_core.specs.Applying.{IsAble}
use Rattle.kc_core.proofs.Needed.{frame-needed}
use Rattle.kc_core.proofs.Frames.{frame-is, places-same}
use Rattle.kc_core.specs.declared.unserved.Unserved.TheVariants as unserved
use Rattle.kc_core.proofs.Answered.{answer-refused, answer-served}
use Rattle.kc_core.proofs.Reading.{host-data}
use Rattle.kc_core.proofs.host.host_read.Goals as goal
use Rattle.kc_core.proofs.host.host_read.Goals.{In_ok-frame}

able : (c : In_ok-frame) → IsAble c.args.config.now c.args.parts.now (HostRead c.in_ok-frame.frame c.args.offset c.args.len)
able c = rw c.in_ok-frame.ensures.frame c.requires

served : (c : In_ok-frame) → refusal (state_of c.args.config.now c.args.parts.now) (HostRead c.in_ok-frame.frame c.args.offset c.args.len) ≡ None
served c = rw c.in_ok-frame.ensures.frame c.in_ok-frame.ensures.answer

seen : (c : In_ok-frame) → IsHostAccess (state_of c.args.config.now c.args.parts.now) c.in_ok-frame.frame c.args.offset c.args.len
seen c = host_access-served _ _ _ _ (served c)

pub page-page-requires : goal.page-page-requires
page-page-requires c =
    let k = (goal.at.page-page-requires c).In_ok-frame in
    frame-needed _ _ _ (able k) c.in_ok-frame.frame (eq-eqb c.in_ok-frame.frame c.in_ok-frame.frame refl) (seen k).frame

pub returns-in_err-buffer-clause-memory : goal.returns-in_err-buffer-clause-memory
returns-in_err-buffer-clause-memory c = λ refused. host-data _ _ _ _ c.in_ok-frame.ensures.answer

pub returns-clause-answer : goal.returns-clause-answer
returns-clause-answer c =
    let k = (goal.at.returns-clause-answer c).In_ok-frame in
    let there = frame-is c.args.config.now c.args.parts.now _ _ (seen k).frame c.page-page.ensures in
    rw (← c.in_ok-frame.ensures.frame) (answer-served c.args.config.now c.args.parts.now c.args.parts.now (HostRead c.in_ok-frame.frame c.args.offset c.args.len) (reply.Data c.read.result) (served k)
    (ap reply.Data (c.read.ensures ∙ ap (λ (frame : Frame). slice_range frame.bytes c.args.offset (c.args.offset + c.args.len)) (sym there)))
    refl c.requires.linked (places-same c.args.parts.now))

pub returns-in_err-frame-clause-answer : goal.returns-in_err-frame-clause-answer
returns-in_err-frame-clause-answer c =
    let is : c.from_residual.result ≡ Err (unserved.Refused c.in_err-frame.field-0.0) = grind arith in
    rw is (answer-refused _ _ _ _ c.requires.linked c.in_err-frame.ensures.answer)
