use Rattle.std.proofs.Common.{◌≡◌, ◌+◌, ◌-◌, Some, is_some, refl, sym, ap, ◌∙◌, arith, Err}
use Rattle.kc_types.specs.declared.call.Call.TheVariants.{RevokeRange}
use Rattle.kc_types.specs.declared.reply.Reply.TheVariants as reply
use Rattle.kc_model.specs.State.{State, mapped_at}
use Rattle.kc_model.specs.Refusals.{backing}
use Rattle.kc_model.specs.Effects.{revoked}
use Rattle.kc_model.proofs.Lawful.RangeCalls.{IsRangeCall, guest_range-served}
use Rattle.kc_parts.specs.States.{state_of}
use Rattle.kc_core.proofs.Frames.{places-through}
use Rattle.kc_core.proofs.Answered.{answer-refused, answer-served}
use Rattle.kc_core.proofs.Sharing.{mapped-still, page-still, each-one, one-done, all-done}
use Rattle.kc_core.proofs.shares.revoke_range.Goals as goal
use Rattle.kc_core.proofs.shares.revoke_range.Goals.{In-loop-at, After-unwrap-frame}

call : (c : In-loop-at) → IsRangeCall (state_of c.args.config.now c.args.parts.now) c.args.vm c.args.vcpu c.args.gfn c.args.count
call c = (guest_range-served (state_of c.args.config.now c.args.parts.now) c.args.vm c.args.vcpu c.args.gfn c.args.count _ c.in_ok-slot.ensures.answer).0

-- the guest frame is mapped as at the start
mapped : (c : In-loop-at) → mapped_at (state_of c.args.config.now c.loop-at.parts) c.args.vm c.loop-at.at ≡ Some (backing (mapped_at (state_of c.args.config.now c.args.parts.now) c.args.vm c.loop-at.at))
mapped c = mapped-still (state_of c.args.config.now c.args.parts.now) (state_of c.args.config.now c.loop-at.parts) c.args.vm c.loop-at.at c.loop-at.invariant.slots ((call c).mapped c.loop-at.at c.loop-at.invariant.from c.loop-at-test.true)

-- the frame that was found is the one there
found : (c : After-unwrap-frame) → mapped_at (state_of c.args.config.now c.loop-at.parts) c.args.vm c.loop-at.at ≡ Some c.unwrap-frame.result
found c = rw (← c.in_ok-slot.ensures.slot) (sym c.mapped_at.ensures ∙ c.unwrap-frame.ensures)

pub unwrap-frame-requires : goal.unwrap-frame-requires
unwrap-frame-requires c =
    let mid = state_of c.args.config.now c.loop-at.parts in
    ap is_some (c.mapped_at.ensures ∙ ap (λ v. mapped_at mid v c.loop-at.at) c.in_ok-slot.ensures.slot ∙ mapped (goal.at.unwrap-frame-requires c).In-loop-at)

pub revoke_frame-requires-clause-here : goal.revoke_frame-requires-clause-here
revoke_frame-requires-clause-here c =
    let k = (goal.at.revoke_frame-requires-clause-here c).In-loop-at in
    page-still _ c.args.parts.now c.loop-at.parts _ _ c.loop-at.at _ c.requires refl (call k).call.vm ((call k).mapped c.loop-at.at c.loop-at.invariant.from c.loop-at-test.true) (mapped k) c.loop-at.invariant.places (found (goal.at.revoke_frame-requires-clause-here c).After-unwrap-frame)

pub loop-at-preserved : goal.loop-at-preserved
loop-at-preserved c =
    let so_far = c.loop-at.invariant in
    let from = so_far.from in
    let low = c.loop-at-test.true in
    let mid = state_of c.args.config.now c.loop-at.parts in
    let done = c.revoke_frame.ensures.state ∙ each-one revoked mid c.args.vm c.loop-at.at _ (found (goal.at.loop-at-preserved c).After-unwrap-frame) in
    record {
      from = omega (arith, from);
      left = one-done revoked mid (state_of c.args.config.now c.revoke_frame.new.parts) _ c.args.vm c.loop-at.at (c.args.gfn + c.args.count - c.loop-at.at) (c.args.gfn + c.args.count - (c.loop-at.at + 1)) (omega (arith, low)) done so_far.left;
      slots = ap (λ (m : State). m.slots) c.revoke_frame.ensures.state ∙ so_far.slots;
      linked = c.revoke_frame.ensures.linked;
      places = places-through _ _ _ so_far.places c.revoke_frame.ensures.places;
    }

pub returns : goal.returns
returns c =
    let so_far = c.loop-at.invariant in
    let past = c.loop-at-test.false in
    let none : c.args.gfn + c.args.count - c.loop-at.at ≡ 0 = omega (arith, past) in
    answer-served c.args.config.now c.args.parts.now _ (RevokeRange c.args.vm c.args.vcpu c.args.gfn c.args.count) reply.Done c.in_ok-slot.ensures.answer refl
    (all-done revoked (state_of c.args.config.now c.loop-at.parts) _ c.args.vm c.loop-at.at _ none so_far.left) so_far.linked so_far.places

pub returns-in_err-slot : goal.returns-in_err-slot
returns-in_err-slot c =
    let is : c.from_residual.result ≡ Err c.in_err-slot.field-0.0 = grind arith in
    rw is (answer-refused _ _ _ _ c.requires.linked c.in_err-slot.ensures.answer)
