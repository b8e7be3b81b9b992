use Rattle.std.proofs.Common.{◌≡◌, ◌<◌, eq-eqb, length, IsSome, None, refl, sym, ap, ◌∙◌, Err, arith}
use Rattle.kc_types.specs.declared.call.Call.TheVariants.{Remap}
use Rattle.kc_types.specs.declared.resource.Resource.TheVariants as resource
use Rattle.kc_types.specs.declared.reply.Reply.TheVariants as reply
use Rattle.kc_model.specs.State.{mapped_at}
use Rattle.kc_model.specs.Refusals.{refusal, next_gfn, tables_full}
use Rattle.kc_model.proofs.Lawful.HandCalls.{IsRemap, remap-served}
use Rattle.kc_vms.specs.Vm.{VmSlot}
use Rattle.kc_parts.specs.Parts.{vm_at}
use Rattle.kc_parts.specs.States.{state_of}
use Rattle.kc_parts.proofs.SlotChanges.{linked-vm}
use Rattle.kc_core.specs.Applying.{IsAble}
use Rattle.kc_core.proofs.Frames.{host-owner, places-vm, places-through}
use Rattle.kc_core.proofs.Needed.{slot-needed, frame-needed}
use Rattle.kc_core.proofs.Answered.{answer-refused, answer-served}
use Rattle.kc_core.proofs.Hands.{remap-fits, remap-page, page-after, state-paged}
use Rattle.kc_core.proofs.hand.remap.Goals as goal
use Rattle.kc_core.proofs.hand.remap.Goals.{In_ok-page}

served : (c : In_ok-page) → refusal (state_of c.args.config.now c.args.parts.now) (Remap c.in_ok-page.page.vm c.args.image c.in_ok-page.page.frame) ≡ None
served c = rw (c.in_ok-page.ensures.found.vm, c.in_ok-page.ensures.found.frame) c.in_ok-page.ensures.answer

able : (c : In_ok-page) → IsAble c.args.config.now c.args.parts.now (Remap c.in_ok-page.page.vm c.args.image c.in_ok-page.page.frame)
able c = rw (c.in_ok-page.ensures.found.vm, c.in_ok-page.ensures.found.frame) c.requires

seen : (c : In_ok-page) → IsRemap (state_of c.args.config.now c.args.parts.now) c.in_ok-page.page.vm c.args.image c.in_ok-page.page.frame
seen c = remap-served _ _ _ _ (served c)

low : (c : In_ok-page) → c.in_ok-page.page.vm < length (state_of c.args.config.now c.args.parts.now).slots
low c = rw c.requires.orderly.slots (seen c).vm

here : (c : In_ok-page) → IsSome (vm_at c.args.parts.now c.in_ok-page.page.vm)
here c = slot-needed _ _ _ (able c) c.in_ok-page.page.vm refl (seen c).vm

is_gfn : (c : In_ok-page) → c.in_ok-page.page.gfn ≡ next_gfn (state_of c.args.config.now c.args.parts.now) c.in_ok-page.page.vm c.args.image
is_gfn c = c.in_ok-page.ensures.found.gfn ∙ ap (λ v. next_gfn (state_of c.args.config.now c.args.parts.now) v c.args.image) (sym c.in_ok-page.ensures.found.vm)

pub hand-requires-clause-slot : goal.hand-requires-clause-slot
hand-requires-clause-slot c = here (goal.at.hand-requires-clause-slot c).In_ok-page

pub hand-requires-clause-exists : goal.hand-requires-clause-exists
hand-requires-clause-exists c = (seen (goal.at.hand-requires-clause-exists c).In_ok-page).vm

pub hand-requires-clause-page : goal.hand-requires-clause-page
hand-requires-clause-page c =
    let k = (goal.at.hand-requires-clause-page c).In_ok-page in
    frame-needed _ _ _ (able k) c.in_ok-page.page.frame (eq-eqb c.in_ok-page.page.frame c.in_ok-page.page.frame refl) (seen k).frame

pub hand-requires-clause-host : goal.hand-requires-clause-host
hand-requires-clause-host c =
    let k = seen (goal.at.hand-requires-clause-host c).In_ok-page in
    host-owner c.args.config.now c.args.parts.now _ k.frame k.host

pub hand-requires-clause-unmapped : goal.hand-requires-clause-unmapped
hand-requires-clause-unmapped c =
    let k = (goal.at.hand-requires-clause-unmapped c).In_ok-page in
    let now = seen k in
    ap (mapped_at (state_of c.args.config.now c.args.parts.now) c.in_ok-page.page.vm) (is_gfn k)
    ∙ (c.requires.orderly.each_slot c.in_ok-page.page.vm now.vm).next_page now.booting c.args.image _ now.image now.short

pub hand-requires-clause-fits : goal.hand-requires-clause-fits
hand-requires-clause-fits c =
    let k = (goal.at.hand-requires-clause-fits c).In_ok-page in
    ap (tables_full (state_of c.args.config.now c.args.parts.now) c.in_ok-page.page.vm) (is_gfn k) ∙ remap-fits (state_of c.args.config.now c.args.parts.now) _ _ _ (served k)

pub slot_mut-requires : goal.slot_mut-requires
slot_mut-requires c = c.hand.ensures.places.here (resource.Vm c.in_ok-page.page.vm) ∙ here (goal.at.slot_mut-requires c).In_ok-page

pub add_page-requires : goal.add_page-requires
add_page-requires c =
    let k = (goal.at.add_page-requires c).In_ok-page in
    page-after _ c.args.parts.now c.hand.new.parts _ _ _ _ c.hand.ensures.state (low k) (seen k).vm c.slot_mut.ensures.value c.args.image (remap-page (state_of c.args.config.now c.args.parts.now) _ _ _ (served k))

pub returns : goal.returns
returns c =
    let k = (goal.at.returns c).In_ok-page in
    let at = c.slot_mut.ensures.value in
    rw (← c.in_ok-page.ensures.found.vm, ← c.in_ok-page.ensures.found.frame) (answer-served c.args.config.now c.args.parts.now _ (Remap c.in_ok-page.page.vm c.args.image c.in_ok-page.page.frame) reply.Done (served k) refl
    (state-paged _ c.args.parts.now c.hand.new.parts _ _ _ _ c.hand.ensures.state (low k) (seen k).vm at c.args.image c.add_page.new.self c.add_page.ensures (is_gfn k))
    (linked-vm _ _ _ _ c.add_page.new.self c.hand.ensures.linked at (ap (λ (vm : VmSlot). vm.slot.frames) c.add_page.ensures) (ap (λ (vm : VmSlot). vm.capacity) c.add_page.ensures))
    (places-through _ _ _ c.hand.ensures.places (places-vm c.hand.new.parts _ _ c.add_page.new.self at)))

pub returns-in_err-page : goal.returns-in_err-page
returns-in_err-page c =
    let is : c.from_residual.result ≡ Err c.in_err-page.field-0.0 = grind arith in
    rw is (answer-refused _ _ _ _ c.requires.linked c.in_err-page.ensures.answer)
