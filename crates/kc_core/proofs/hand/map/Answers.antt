use Rattle.std.proofs.Common.{◌≡◌, eq-eqb, IsSome, None, refl, sym, ap, ◌∙◌, Err, arith}
use Rattle.kc_types.specs.declared.call.Call.TheVariants.{Map}
use Rattle.kc_types.specs.declared.resource.Resource.TheVariants as resource
use Rattle.kc_types.specs.declared.reply.Reply.TheVariants as reply
use Rattle.kc_model.specs.State.{State, mapped_at}
use Rattle.kc_model.specs.Refusals.{refusal, backing, pending, tables_full}
use Rattle.kc_model.specs.Effects.{hand, with_fault}
use Rattle.kc_model.proofs.Lawful.HandCalls.{IsMap, map-served}
use Rattle.kc_parts.specs.Parts.{vm_at}
use Rattle.kc_parts.specs.States.{state_of}
use Rattle.kc_core.specs.Applying.{IsAble}
use Rattle.kc_core.proofs.Needed.{slot-needed, frame-needed}
use Rattle.kc_core.proofs.Frames.{host-owner, places-through}
use Rattle.kc_core.proofs.Answered.{answer-refused, answer-served}
use Rattle.kc_core.proofs.Hands.{map-fitting}
use Rattle.kc_core.proofs.hand.map.Goals as goal
use Rattle.kc_core.proofs.hand.map.Goals.{In_ok-page}

served : (c : In_ok-page) → refusal (state_of c.args.config.now c.args.parts.now) (Map c.in_ok-page.page.vm c.in_ok-page.page.vcpu c.in_ok-page.page.frame) ≡ None
served c = rw (c.in_ok-page.ensures.found.vm, c.in_ok-page.ensures.found.vcpu, c.in_ok-page.ensures.found.frame) c.in_ok-page.ensures.answer

able : (c : In_ok-page) → IsAble c.args.config.now c.args.parts.now (Map c.in_ok-page.page.vm c.in_ok-page.page.vcpu c.in_ok-page.page.frame)
able c = rw (c.in_ok-page.ensures.found.vm, c.in_ok-page.ensures.found.vcpu, c.in_ok-page.ensures.found.frame) c.requires

seen : (c : In_ok-page) → IsMap (state_of c.args.config.now c.args.parts.now) c.in_ok-page.page.vm c.in_ok-page.page.vcpu c.in_ok-page.page.frame
seen c = map-served _ _ _ _ (served c)

here : (c : In_ok-page) → IsSome (vm_at c.args.parts.now c.in_ok-page.page.vm)
here c = slot-needed _ _ _ (able c) c.in_ok-page.page.vm refl (seen c).vm

-- the guest frame is the one that is waited for
is_gfn : (c : In_ok-page) → pending (state_of c.args.config.now c.args.parts.now) c.in_ok-page.page.vm c.in_ok-page.page.vcpu ≡ c.in_ok-page.page.gfn
is_gfn c = rw (c.in_ok-page.ensures.found.vm, c.in_ok-page.ensures.found.vcpu) (ap backing c.in_ok-page.ensures.found.gfn)

pub hand-requires-clause-slot : goal.hand-requires-clause-slot
hand-requires-clause-slot c = here (goal.at.hand-requires-clause-slot c).In_ok-page

pub hand-requires-clause-exists : goal.hand-requires-clause-exists
hand-requires-clause-exists c = (seen (goal.at.hand-requires-clause-exists c).In_ok-page).vm

pub hand-requires-clause-page : goal.hand-requires-clause-page
hand-requires-clause-page c =
    let k = (goal.at.hand-requires-clause-page c).In_ok-page in
    frame-needed _ _ _ (able k) c.in_ok-page.page.frame (eq-eqb c.in_ok-page.page.frame c.in_ok-page.page.frame refl) (seen k).frame

pub hand-requires-clause-host : goal.hand-requires-clause-host
hand-requires-clause-host c =
    let k = seen (goal.at.hand-requires-clause-host c).In_ok-page in
    host-owner c.args.config.now c.args.parts.now _ k.frame k.host

pub hand-requires-clause-unmapped : goal.hand-requires-clause-unmapped
hand-requires-clause-unmapped c =
    let k = (goal.at.hand-requires-clause-unmapped c).In_ok-page in
    ap (mapped_at (state_of c.args.config.now c.args.parts.now) c.in_ok-page.page.vm) (sym (is_gfn k)) ∙ (seen k).unmapped

pub hand-requires-clause-fits : goal.hand-requires-clause-fits
hand-requires-clause-fits c =
    let k = (goal.at.hand-requires-clause-fits c).In_ok-page in
    ap (tables_full (state_of c.args.config.now c.args.parts.now) c.in_ok-page.page.vm) (sym (is_gfn k)) ∙ map-fitting (state_of c.args.config.now c.args.parts.now) _ _ _ (served k)

pub spend_fault-requires-clause-exists : goal.spend_fault-requires-clause-exists
spend_fault-requires-clause-exists c = (seen (goal.at.spend_fault-requires-clause-exists c).In_ok-page).vm

pub spend_fault-requires-clause-here : goal.spend_fault-requires-clause-here
spend_fault-requires-clause-here c = c.hand.ensures.places.here (resource.Vm c.in_ok-page.page.vm) ∙ here (goal.at.spend_fault-requires-clause-here c).In_ok-page

pub returns : goal.returns
returns c =
    let k = (goal.at.returns c).In_ok-page in
    let m = state_of c.args.config.now c.args.parts.now in
    let page = c.in_ok-page.page in
    rw (← c.in_ok-page.ensures.found.vm, ← c.in_ok-page.ensures.found.vcpu, ← c.in_ok-page.ensures.found.frame) (answer-served c.args.config.now c.args.parts.now _ (Map page.vm page.vcpu page.frame) reply.Done (served k) refl
    (c.spend_fault.ensures.state ∙ ap (λ (s : State). with_fault s page.vm page.vcpu None) (c.hand.ensures.state ∙ ap (λ g. hand m page.vm g page.frame) (sym (is_gfn k))))
    c.spend_fault.ensures.linked (places-through _ _ _ c.hand.ensures.places c.spend_fault.ensures.places))

pub returns-in_err-page : goal.returns-in_err-page
returns-in_err-page c =
    let is : c.from_residual.result ≡ Err c.in_err-page.field-0.0 = grind arith in
    rw is (answer-refused _ _ _ _ c.requires.linked c.in_err-page.ensures.answer)
