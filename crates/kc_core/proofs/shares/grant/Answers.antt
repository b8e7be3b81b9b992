use Rattle.std.proofs.Common.{refl, ap, ◌∙◌, arith, ◌≡◌, Err}
use Rattle.kc_types.specs.declared.call.Call.TheVariants.{Grant}
use Rattle.kc_types.specs.declared.reply.Reply.TheVariants as reply
use Rattle.kc_model.specs.State.{frame_at}
use Rattle.kc_model.specs.Refusals.{backing}
use Rattle.kc_model.specs.Effects.{granted}
use Rattle.kc_model.proofs.Lawful.GuestCalls.{guest_frame-served}
use Rattle.kc_parts.specs.States.{state_of}
use Rattle.kc_core.proofs.Needed.{mapped-needed}
use Rattle.kc_core.proofs.Answered.{answer-refused, answer-served}
use Rattle.kc_core.proofs.Guests.{few-granted}
use Rattle.kc_core.proofs.Sharing.{each-one}
use Rattle.kc_core.proofs.shares.grant.Goals as goal

pub grant_frame-requires-clause-here : goal.grant_frame-requires-clause-here
grant_frame-requires-clause-here c =
    mapped-needed _ _ _ c.requires c.args.vm c.args.gfn _ refl (guest_frame-served (state_of c.args.config.now c.args.parts.now) _ c.args.vcpu c.args.gfn _ c.in_ok-frame.ensures.answer).0.call.vm c.in_ok-frame.ensures.mapped

pub grant_frame-requires-clause-few : goal.grant_frame-requires-clause-few
grant_frame-requires-clause-few c =
    let m = state_of c.args.config.now c.args.parts.now in
    let few = few-granted m c.args.vm c.args.vcpu c.args.gfn c.in_ok-frame.ensures.answer in
    let same = ap (λ at. (frame_at m (backing at)).share) c.in_ok-frame.ensures.mapped in
    omega (arith, few, same)

pub returns : goal.returns
returns c =
    let done = c.grant_frame.ensures in
    answer-served c.args.config.now c.args.parts.now _ (Grant c.args.vm c.args.vcpu c.args.gfn) reply.Done c.in_ok-frame.ensures.answer refl
    (done.state ∙ each-one granted (state_of c.args.config.now c.args.parts.now) c.args.vm c.args.gfn _ c.in_ok-frame.ensures.mapped) done.linked done.places

pub returns-in_err-frame : goal.returns-in_err-frame
returns-in_err-frame c =
    let is : c.from_residual.result ≡ Err c.in_err-frame.field-0.0 = grind arith in
    rw is (answer-refused _ _ _ _ c.requires.linked c.in_err-frame.ensures.answer)
