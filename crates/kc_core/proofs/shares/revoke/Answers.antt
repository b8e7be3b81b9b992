use Rattle.std.proofs.Common.{refl, ◌∙◌, ◌≡◌, Err, arith}
use Rattle.kc_types.specs.declared.call.Call.TheVariants.{Revoke}
use Rattle.kc_types.specs.declared.reply.Reply.TheVariants as reply
use Rattle.kc_model.specs.Effects.{revoked}
use Rattle.kc_model.proofs.Lawful.GuestCalls.{guest_frame-served}
use Rattle.kc_parts.specs.States.{state_of}
use Rattle.kc_core.proofs.Needed.{mapped-needed}
use Rattle.kc_core.proofs.Answered.{answer-refused, answer-served}
use Rattle.kc_core.proofs.Sharing.{each-one}
use Rattle.kc_core.proofs.shares.revoke.Goals as goal

pub revoke_frame-requires-clause-here : goal.revoke_frame-requires-clause-here
revoke_frame-requires-clause-here c =
    mapped-needed _ _ _ c.requires c.args.vm c.args.gfn _ refl (guest_frame-served (state_of c.args.config.now c.args.parts.now) _ c.args.vcpu c.args.gfn _ c.in_ok-frame.ensures.answer).0.call.vm c.in_ok-frame.ensures.mapped

pub returns : goal.returns
returns c =
    let done = c.revoke_frame.ensures in
    answer-served c.args.config.now c.args.parts.now _ (Revoke c.args.vm c.args.vcpu c.args.gfn) reply.Done c.in_ok-frame.ensures.answer refl
    (done.state ∙ each-one revoked (state_of c.args.config.now c.args.parts.now) c.args.vm c.args.gfn _ c.in_ok-frame.ensures.mapped) done.linked done.places

pub returns-in_err-frame : goal.returns-in_err-frame
returns-in_err-frame c =
    let is : c.from_residual.result ≡ Err c.in_err-frame.field-0.0 = grind arith in
    rw is (answer-refused _ _ _ _ c.requires.linked c.in_err-frame.ensures.answer)
