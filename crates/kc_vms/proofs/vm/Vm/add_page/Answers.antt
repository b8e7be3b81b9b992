use Rattle.kc_vms.proofs.Kept.{slot-with_page, next_page-served}
use Rattle.kc_vms.proofs.vm.Vm.add_page.Goals as goal

pub invariant_of-self : goal.invariant_of-self
invariant_of-self c =
    let served = next_page-served c.args.self.now.slot c.args.image c.requires in
    let inside = rw (← c.self.view_is) at served in
    slot-with_page c.self.inside.version c.self.inside.phase c.self.inside.vcpus.items c.self.inside.images.items c.deref_mut.result.now c.args.image _ c.self.invariant c.deref_mut.ensures.value inside.0 inside.1
