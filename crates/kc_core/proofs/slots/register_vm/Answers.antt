use Rattle.std.proofs.Common.{◌≡◌, ◌<◌, Some, refl, ◌∙◌, Err, arith}
use Rattle.kc_types.specs.Configuration.{slot_count}
use Rattle.kc_types.specs.declared.refusal.Refusal.TheVariants.{BadVm}
use Rattle.kc_parts.specs.Parts.{vm_at}
use Rattle.kc_parts.specs.States.{state_of}
use Rattle.kc_parts.proofs.Looked.{slot-is}
use Rattle.kc_core.proofs.Needed.{slot-needed}
use Rattle.kc_core.proofs.Answered.{answer-refused, answer-slot_refused, past-limit}
use Rattle.kc_core.proofs.SlotCalls.{vm-past, refusal-register_vm, answer-register_vm}
use Rattle.kc_core.proofs.slots.register_vm.Goals as goal
use Rattle.kc_core.proofs.slots.register_vm.Goals.{In-Some, After-slot_mut-slot}

low : (c : In-Some) → c.args.vm < slot_count c.args.config.now
low c = c.in-Some.ensures.valid.0 refl

at : (c : After-slot_mut-slot) → vm_at c.args.parts.now c.args.vm ≡ Some c.slot_mut-slot.result.now
at c = rw c.in-Some.ensures.value at c.slot_mut-slot.ensures.value

pub returns-in_default : goal.returns-in_default
returns-in_default c = answer-refused _ _ _ BadVm c.requires.linked (rw (vm-past (state_of c.args.config.now c.args.parts.now) c.args.vm (past-limit _ _ _ c.in_default.is c.vm.ensures.valid)) refl)

pub slot_mut-slot-requires : goal.slot_mut-slot-requires
slot_mut-slot-requires c = rw c.in-Some.ensures.value (slot-needed _ _ _ c.requires c.args.vm refl (low (goal.at.slot_mut-slot-requires c).In-Some))

pub returns : goal.returns
returns c =
    let k = goal.at.returns c in
    rw c.in-Some.ensures.value (answer-register_vm _ _ _ _ _ c.requires.linked (low k.In-Some) (at k.After-slot_mut-slot) c.in_ok-register.ensures.answer c.in_ok-register.ensures.ok)

pub returns-in_err-register : goal.returns-in_err-register
returns-in_err-register c =
    let k = goal.at.returns-in_err-register c in
    let is : c.from_residual.result ≡ Err c.in_err-register.field-0.0 = grind arith in
    rw (is, c.in-Some.ensures.value) (answer-slot_refused _ _ _ _ _ _ _ c.requires.linked (at k.After-slot_mut-slot) c.in_err-register.ensures.err
    (refusal-register_vm (state_of c.args.config.now c.args.parts.now) _ c.slot_mut-slot.result.now.slot _ (low k.In-Some) (slot-is c.args.config.now c.args.parts.now _ _ (low k.In-Some) (at k.After-slot_mut-slot)) ∙ c.in_err-register.ensures.answer))
