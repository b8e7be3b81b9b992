use Rattle.std.proofs.Common.{◌≡◌, ◌<◌, true, None, eq-eqb, refl, Err, arith}
use Rattle.kc_types.specs.declared.call.Call.TheVariants.{HostFault}
use Rattle.kc_types.specs.declared.reply.Reply.TheVariants as reply
use Rattle.kc_model.specs.Refusals.{refusal}
use Rattle.kc_model.proofs.Refusals.Served.{host_fault-served}
use Rattle.kc_parts.specs.States.{state_of}
use Rattle.kc_parts.proofs.Seen.{linked-kept}
use Rattle.kc_core.specs.Applying.{IsAble}
use Rattle.kc_core.proofs.Needed.{frame-needed}
use Rattle.kc_core.proofs.Frames.{changed, places-page}
use Rattle.kc_core.proofs.Answered.{answer-refused, answer-served}
use Rattle.kc_core.proofs.host.host_fault.Goals as goal
use Rattle.kc_core.proofs.host.host_fault.Goals.{In_ok-frame}

able : (c : In_ok-frame) → IsAble c.args.config.now c.args.parts.now (HostFault c.in_ok-frame.frame)
able c = rw c.in_ok-frame.ensures.frame c.requires

served : (c : In_ok-frame) → refusal (state_of c.args.config.now c.args.parts.now) (HostFault c.in_ok-frame.frame) ≡ None
served c = rw c.in_ok-frame.ensures.frame c.in_ok-frame.ensures.answer

low : (c : In_ok-frame) → c.in_ok-frame.frame < c.args.config.now.frames
low c = (host_fault-served (state_of c.args.config.now c.args.parts.now) c.in_ok-frame.frame (served c)).0

pub page_mut-page-requires : goal.page_mut-page-requires
page_mut-page-requires c =
    let k = (goal.at.page_mut-page-requires c).In_ok-frame in
    frame-needed _ _ _ (able k) c.in_ok-frame.frame (eq-eqb c.in_ok-frame.frame c.in_ok-frame.frame refl) (low k)

pub returns : goal.returns
returns c =
    let k = (goal.at.returns c).In_ok-frame in
    let at = c.page_mut-page.ensures.value in
    rw (← c.in_ok-frame.ensures.frame) (answer-served c.args.config.now c.args.parts.now _ (HostFault c.in_ok-frame.frame) reply.Done (served k) refl
    (changed c.args.config.now c.args.parts.now _ _ _ (λ frame. record frame { present = true }) (low k) at refl refl)
    (linked-kept _ _ _ _ _ c.requires.linked at refl refl refl)
    (places-page _ _ _ _ at refl (λ away. refl)))

pub returns-in_err-frame : goal.returns-in_err-frame
returns-in_err-frame c =
    let is : c.from_residual.result ≡ Err c.in_err-frame.field-0.0 = grind arith in
    rw is (answer-refused _ _ _ _ c.requires.linked c.in_err-frame.ensures.answer)
