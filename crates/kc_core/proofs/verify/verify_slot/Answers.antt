use Rattle.std.proofs.Common.{◌≡◌, Err, arith}
use Rattle.kc_core.proofs.Answered.{answer-refused}
use Rattle.kc_core.proofs.Imaged.{slot-verified, images-needed}
use Rattle.kc_core.proofs.verify.verify_slot.Goals as goal

pub rejected-rejected-requires-clause-slot : goal.rejected-rejected-requires-clause-slot
rejected-rejected-requires-clause-slot c = slot-verified c.args.config.now c.args.parts.now c.in_ok-vm.vm (rw c.in_ok-vm.ensures.slot c.requires) (rw c.in_ok-vm.ensures.slot c.in_ok-vm.ensures.answer)

pub rejected-rejected-requires-clause-here : goal.rejected-rejected-requires-clause-here
rejected-rejected-requires-clause-here c = images-needed c.args.config.now c.args.parts.now c.in_ok-vm.vm (rw c.in_ok-vm.ensures.slot c.requires) (rw c.in_ok-vm.ensures.slot c.in_ok-vm.ensures.answer)

pub end_boot-requires-clause-served : goal.end_boot-requires-clause-served
end_boot-requires-clause-served c = rw c.in_ok-vm.ensures.slot c.in_ok-vm.ensures.answer

pub end_boot-requires-clause-able : goal.end_boot-requires-clause-able
end_boot-requires-clause-able c = rw c.in_ok-vm.ensures.slot c.requires

pub returns : goal.returns
returns c = rw (← c.in_ok-vm.ensures.slot) c.end_boot.ensures

pub returns-in_err-vm : goal.returns-in_err-vm
returns-in_err-vm c =
    let is : c.from_residual.result ≡ Err c.in_err-vm.field-0.0 = grind arith in
    rw is (answer-refused _ _ _ _ c.requires.linked c.in_err-vm.ensures.answer)
