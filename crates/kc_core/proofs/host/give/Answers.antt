use Rattle.std.proofs.Common.{◌≡◌, ◌<◌, None, eq-eqb, refl, sym, ap, ◌∙◌, Err, arith}
use Rattle.kc_types.specs.declared.call.Call.TheVariants.{Give}
use Rattle.kc_types.specs.declared.owner.Owner.TheVariants.{Host}
use Rattle.kc_types.specs.declared.resource.Resource.TheVariants as resource
use Rattle.kc_types.specs.declared.reply.Reply.TheVariants as reply
use Rattle.kc_model.specs.Refusals.{refusal}
use Rattle.kc_page.specs.PageBytes.{Content}
use Rattle.kc_parts.specs.States.{state_of, frame_in, owner_at, IsLoose}
use Rattle.kc_parts.proofs.Pages.{page-set}
use Rattle.kc_parts.proofs.Seen.{linked-moved}
use Rattle.kc_core.specs.Applying.{IsAble}
use Rattle.kc_core.proofs.Needed.{frame-needed}
use Rattle.kc_core.proofs.Frames.{places-page, places-move, places-through, host-near, host-owner}
use Rattle.kc_core.proofs.Answered.{answer-refused, answer-served}
use Rattle.kc_core.proofs.Hosts.{give-served, loose-host, loose-page, state-given}
use Rattle.kc_core.proofs.host.give.Goals as goal
use Rattle.kc_core.proofs.host.give.Goals.{In_ok-frame}

able : (c : In_ok-frame) → IsAble c.args.config.now c.args.parts.now (Give c.in_ok-frame.frame)
able c = rw c.in_ok-frame.ensures.frame c.requires

served : (c : In_ok-frame) → refusal (state_of c.args.config.now c.args.parts.now) (Give c.in_ok-frame.frame) ≡ None
served c = rw c.in_ok-frame.ensures.frame c.in_ok-frame.ensures.answer

-- the frame exists, and is the host's
seen : (c : In_ok-frame) → (c.in_ok-frame.frame < c.args.config.now.frames) × (owner_at c.args.parts.now c.in_ok-frame.frame ≡ Host)
seen c =
    let is = give-served (state_of c.args.config.now c.args.parts.now) c.in_ok-frame.frame (served c) in
    (is.0, host-owner c.args.config.now c.args.parts.now _ is.0 is.1)

loose : (c : In_ok-frame) → IsLoose c.args.parts.now c.in_ok-frame.frame
loose c = loose-host _ _ _ c.requires.linked (seen c).1

pub page_mut-page-requires : goal.page_mut-page-requires
page_mut-page-requires c =
    let k = (goal.at.page_mut-page-requires c).In_ok-frame in
    frame-needed _ _ _ (able k) c.in_ok-frame.frame (eq-eqb c.in_ok-frame.frame c.in_ok-frame.frame refl) (seen k).0

pub append_free-requires-clause-lists : goal.append_free-requires-clause-lists
append_free-requires-clause-lists c =
    let is = loose (goal.at.append_free-requires-clause-lists c).In_ok-frame in
    (linked-moved c.args.config.now _ _ _ _ c.requires.linked c.page_mut-page.ensures.value refl is.absent (λ host. is.alone) (ap (λ (page : Content). page.is_reserved) c.scrub.ensures)).lists

pub append_free-requires-clause-loose : goal.append_free-requires-clause-loose
append_free-requires-clause-loose c = loose-page _ _ _ _ c.page_mut-page.ensures.value refl (loose (goal.at.append_free-requires-clause-loose c).In_ok-frame)

pub append_free-requires-clause-free : goal.append_free-requires-clause-free
append_free-requires-clause-free c = ap (λ there. (frame_in there).owner) (page-set c.args.parts.now c.in_ok-frame.frame c.page_mut-page.result.now _ c.page_mut-page.ensures.value) ∙ c.of-page.ensures

pub append_free-requires-clause-here : goal.append_free-requires-clause-here
append_free-requires-clause-here c = c.requires.here resource.Free refl

pub returns : goal.returns
returns c =
    let k = (goal.at.returns c).In_ok-frame in
    let old = c.args.parts.now in
    let at = c.page_mut-page.ensures.value in
    let near = host-near old c.in_ok-frame.frame (seen k).1 in
    let is = loose k in
    let move = c.append_free.ensures.rest in
    rw (← c.in_ok-frame.ensures.frame) (answer-served c.args.config.now old c.append_free.new.self (Give c.in_ok-frame.frame) reply.Done (served k) refl
    (state-given _ old c.append_free.new.self _ _ _ (seen k).0 at refl (rw (c.of-page.ensures, c.scrub.ensures) refl) move c.append_free.ensures.frames)
    (move.linked _ (linked-moved _ _ _ _ _ c.requires.linked at refl is.absent (λ host. is.alone) (ap (λ (page : Content). page.is_reserved) c.scrub.ensures)))
    (places-through _ _ _ (places-page _ _ _ _ at refl (λ away. let no = sym near ∙ away in cc)) (places-move _ _ move)))

pub returns-in_err-frame : goal.returns-in_err-frame
returns-in_err-frame c =
    let is : c.from_residual.result ≡ Err c.in_err-frame.field-0.0 = grind arith in
    rw is (answer-refused _ _ _ _ c.requires.linked c.in_err-frame.ensures.answer)
