use Rattle.std.proofs.Common.{◌≡◌, Some, sym, ap, ◌∙◌}
use Rattle.kc_types.specs.declared.link.Ends.{Ends}
use Rattle.kc_vms.specs.Vm.{VmSlot}
use Rattle.kc_links.specs.Ending.{listed}
use Rattle.kc_parts.specs.Parts.{vm_at, with_vm, links_of}
use Rattle.kc_parts.specs.Emptying.{all_scrubbed}
use Rattle.kc_parts.proofs.Emptied.{reset, emptied, slot-emptied}
use Rattle.kc_parts.proofs.parts.Parts.empty_slot.Goals as goal

pub returns-clause-rest : goal.returns-clause-rest
returns-clause-rest c =
    let old = c.args.self.now in
    let slot = c.unwrap-slot.result.now in
    let at : vm_at old c.args.vm ≡ Some slot = sym (rw c.unwrap-slot.ensures at c.try_slot_mut.ensures.value) in
    let left : c.scrub_list.new.self ≡ emptied old c.args.vm slot at =
    c.scrub_list.ensures
    ∙ ap (λ (vm : VmSlot). all_scrubbed (with_vm old c.args.vm vm) (listed (links_of old) c.list.result.now)) c.reset.ensures
    ∙ ap (λ (ends : Ends). all_scrubbed (reset old c.args.vm slot at) (listed (links_of old) ends)) c.list.ensures in
    rw left (slot-emptied old c.args.vm slot at)
