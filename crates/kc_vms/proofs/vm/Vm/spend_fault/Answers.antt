use Rattle.kc_model.specs.State.{absent_vcpu}
use Rattle.kc_vms.proofs.Kept.{slot-spent}
use Rattle.kc_vms.proofs.vm.Vm.spend_fault.Goals as goal
use Rattle.kc_vms.proofs.vm.Vm.spend_fault.Goals.{in-Some, in_default}

pub invariant_of-self : goal.invariant_of-self
invariant_of-self c =
    let inside = c.self.inside in
    elim c.match-get_mut.branch [
      | in-Some w ↦
          let item = w.in-Some.ensures.item in
          rw w.self-inside-is (slot-spent inside.version inside.phase inside.vcpus.items inside.images.items c.index.result w.in-Some.there.now c.self.invariant item.3.0 (item.3.1 absent_vcpu))
      | in_default w ↦ rw w.self-inside-is c.self.invariant
    ]
