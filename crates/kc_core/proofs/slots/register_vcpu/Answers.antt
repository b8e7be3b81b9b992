use Rattle.std.proofs.Common.{◌≡◌, ◌<◌, Some, refl, ap, ◌∙◌, Err, arith}
use Rattle.kc_types.specs.Configuration.{slot_count, vcpus_of}
use Rattle.kc_types.specs.declared.refusal.Refusal.TheVariants.{BadVm, BadVcpu}
use Rattle.kc_vms.specs.Vm.{Capacity}
use Rattle.kc_parts.specs.Parts.{vm_at}
use Rattle.kc_parts.specs.States.{state_of}
use Rattle.kc_parts.proofs.Looked.{slot-is}
use Rattle.kc_core.proofs.Needed.{slot-needed}
use Rattle.kc_core.proofs.Answered.{answer-refused, answer-slot_refused, past-limit}
use Rattle.kc_core.proofs.SlotCalls.{vm-past, vm-fits, vcpu-past, refusal-register_vcpu, answer-register_vcpu}
use Rattle.kc_core.proofs.slots.register_vcpu.Goals as goal
use Rattle.kc_core.proofs.slots.register_vcpu.Goals.{In-Some, In-Some-vcpu, After-slot_mut-slot}

low : (c : In-Some) → c.args.vm < slot_count c.args.config.now
low c = c.in-Some.ensures.valid.0 refl

vcpu_low : (c : In-Some-vcpu) → c.args.vcpu < vcpus_of c.args.config.now.version
vcpu_low c = c.in-Some-vcpu.ensures.valid.0 refl

at : (c : After-slot_mut-slot) → vm_at c.args.parts.now c.args.vm ≡ Some c.slot_mut-slot.result.now
at c = rw c.in-Some.ensures.value at c.slot_mut-slot.ensures.value

pub returns-in_default : goal.returns-in_default
returns-in_default c = answer-refused _ _ _ BadVm c.requires.linked (rw (vm-past (state_of c.args.config.now c.args.parts.now) c.args.vm (past-limit _ _ _ c.in_default.is c.vm.ensures.valid)) refl)

pub returns-in_default-vcpu : goal.returns-in_default-vcpu
returns-in_default-vcpu c =
    answer-refused _ _ _ BadVcpu c.requires.linked
    (rw (vm-fits (state_of c.args.config.now c.args.parts.now) c.args.vm (low (goal.at.returns-in_default-vcpu c).In-Some), vcpu-past (state_of c.args.config.now c.args.parts.now) c.args.vcpu (past-limit _ _ _ c.in_default-vcpu.is c.vcpu.ensures.valid)) refl)

pub slot_mut-slot-requires : goal.slot_mut-slot-requires
slot_mut-slot-requires c = rw c.in-Some.ensures.value (slot-needed _ _ _ c.requires c.args.vm refl (low (goal.at.slot_mut-slot-requires c).In-Some))

pub add_vcpu-requires : goal.add_vcpu-requires
add_vcpu-requires c =
    let k = goal.at.add_vcpu-requires c in
    let version = ap (λ (made : Capacity). made.version) (c.requires.linked.vms c.args.vm c.slot_mut-slot.result.now (at k.After-slot_mut-slot)) in
    rw (version, c.in-Some-vcpu.ensures.value) (vcpu_low k.In-Some-vcpu)

pub returns : goal.returns
returns c =
    let k = goal.at.returns c in
    rw c.in-Some.ensures.value (answer-register_vcpu _ _ _ _ _ _ c.requires.linked (low k.In-Some) (vcpu_low k.In-Some-vcpu) (at k.After-slot_mut-slot)
    (rw c.in-Some-vcpu.ensures.value at c.in_ok-add_vcpu.ensures.answer) (rw c.in-Some-vcpu.ensures.value at c.in_ok-add_vcpu.ensures.ok))

pub returns-in_err-add_vcpu : goal.returns-in_err-add_vcpu
returns-in_err-add_vcpu c =
    let k = goal.at.returns-in_err-add_vcpu c in
    let is : c.from_residual.result ≡ Err c.in_err-add_vcpu.field-0.0 = grind arith in
    rw (is, c.in-Some.ensures.value) (answer-slot_refused _ _ _ _ _ _ _ c.requires.linked (at k.After-slot_mut-slot) c.in_err-add_vcpu.ensures.err
    (refusal-register_vcpu (state_of c.args.config.now c.args.parts.now) _ _ c.slot_mut-slot.result.now.slot _ (low k.In-Some) (vcpu_low k.In-Some-vcpu)
    (slot-is c.args.config.now c.args.parts.now _ _ (low k.In-Some) (at k.After-slot_mut-slot)) ∙ rw c.in-Some-vcpu.ensures.value at c.in_err-add_vcpu.ensures.answer))
