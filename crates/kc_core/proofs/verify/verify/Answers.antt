use Rattle.std.proofs.Common.{◌≡◌, Err, ap₂, ◌∙◌, arith}
use Rattle.kc_core.specs.Verifying.{rejected_for}
use Rattle.kc_core.proofs.Answered.{answer-refused}
use Rattle.kc_core.proofs.Imaged.{slot-verified, images-needed, rejected-is}
use Rattle.kc_core.proofs.verify.verify.Goals as goal

pub measured_images-images-requires-clause-slot : goal.measured_images-images-requires-clause-slot
measured_images-images-requires-clause-slot c = slot-verified c.args.config.now c.args.parts.now c.in_ok-vm.vm (rw c.in_ok-vm.ensures.slot c.requires) (rw c.in_ok-vm.ensures.slot c.in_ok-vm.ensures.answer)

pub measured_images-images-requires-clause-here : goal.measured_images-images-requires-clause-here
measured_images-images-requires-clause-here c = images-needed c.args.config.now c.args.parts.now c.in_ok-vm.vm (rw c.in_ok-vm.ensures.slot c.requires) (rw c.in_ok-vm.ensures.slot c.in_ok-vm.ensures.answer)

pub launch_of-launch-requires-clause-slot : goal.launch_of-launch-requires-clause-slot
launch_of-launch-requires-clause-slot c = slot-verified c.args.config.now c.args.parts.now c.in_ok-vm.vm (rw c.in_ok-vm.ensures.slot c.requires) (rw c.in_ok-vm.ensures.slot c.in_ok-vm.ensures.answer)

pub launch_of-launch-requires-clause-here : goal.launch_of-launch-requires-clause-here
launch_of-launch-requires-clause-here c = images-needed c.args.config.now c.args.parts.now c.in_ok-vm.vm (rw c.in_ok-vm.ensures.slot c.requires) (rw c.in_ok-vm.ensures.slot c.in_ok-vm.ensures.answer)

pub end_boot-reply-requires-clause-served : goal.end_boot-reply-requires-clause-served
end_boot-reply-requires-clause-served c = rw c.in_ok-vm.ensures.slot c.in_ok-vm.ensures.answer

pub end_boot-reply-requires-clause-able : goal.end_boot-reply-requires-clause-able
end_boot-reply-requires-clause-able c = rw c.in_ok-vm.ensures.slot c.requires

pub end_boot-reply-requires-clause-rejected : goal.end_boot-reply-requires-clause-rejected
end_boot-reply-requires-clause-rejected c =
    c.unapproved-rejected.ensures
    ∙ ap₂ (rejected_for c.args.config.now) (c.as_slice.ensures.value ∙ c.measured_images-images.ensures) c.launch_of-launch.ensures
    ∙ rejected-is c.args.config.now c.args.parts.now c.in_ok-vm.vm

pub returns-clause-answer : goal.returns-clause-answer
returns-clause-answer c = rw (← c.in_ok-vm.ensures.slot) c.end_boot-reply.ensures

pub returns-in_err-vm-clause-answer : goal.returns-in_err-vm-clause-answer
returns-in_err-vm-clause-answer c =
    let is : c.from_residual.result ≡ Err c.in_err-vm.field-0.0 = grind arith in
    rw is (answer-refused _ _ _ _ c.requires.linked c.in_err-vm.ensures.answer)
