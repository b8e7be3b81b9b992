use Rattle.std.proofs.Common.{◌≡◌, refl}
use Rattle.kc_core.proofs.SlotsShown.{slot-shown}
use Rattle.kc_core.proofs.Ended.{slot-ended}
use Rattle.kc_core.proofs.kcore.KCore.try_slot.Goals as goal

pub returns-clause-value : goal.returns-clause-value
returns-clause-value c =
    let is : c.in_ok-vm.field-0 ≡ c.args.vm = c.in_ok-vm.ensures.value in
    rw (← c.self.view_is, ← is) (slot-shown c.self.inside.config c.self.inside.parts c.in_ok-vm.field-0 (rw is (c.in_ok-vm.ensures.valid.0 refl)) c.try_slot.result c.try_slot.ensures)

pub returns-clause-linked : goal.returns-clause-linked
returns-clause-linked c =
    let is : c.in_ok-vm.field-0 ≡ c.args.vm = c.in_ok-vm.ensures.value in
    rw (← c.self.view_is, ← is) (slot-ended c.self.inside.config c.self.inside.parts c.self.invariant c.in_ok-vm.field-0 (rw is (c.in_ok-vm.ensures.valid.0 refl)) c.try_slot.result c.try_slot.ensures)
