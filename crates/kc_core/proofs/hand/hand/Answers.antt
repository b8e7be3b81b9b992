use Rattle.std.proofs.Common.{false, is_some, refl, ap}
use Rattle.kc_model.proofs.States.Leaves.{root-in}
use Rattle.kc_vms.specs.Vm.{Capacity}
use Rattle.kc_parts.specs.States.{state_of}
use Rattle.kc_parts.proofs.SlotChanges.{vm-set}
use Rattle.kc_parts.proofs.Looked.{slot-is}
use Rattle.kc_core.proofs.Hands.{IsHanding, map-fits, map-ok, loose-owned, owner-owned, linked-owned, state-handed, places-handed}
use Rattle.kc_core.proofs.hand.hand.Goals as goal
use Rattle.kc_core.proofs.hand.hand.Goals.{After-page_mut-page}

handing : (c : After-page_mut-page) → IsHanding c.args.config.now c.args.parts.now c.args.vm c.args.gfn c.args.frame c.slot_mut-slot.result.now c.map.new.self c.page_mut-page.result.now
    (record c.page_mut-page.result.now { meta = record c.page_mut-page.result.now.meta { owner = c.of-owner.result; gfn = c.of-place.result; present = false } })
handing c = record {
  linked = c.requires.linked;
  low = c.requires.exists;
  at_vm = c.slot_mut-slot.ensures.value;
  at = c.page_mut-page.ensures.value;
  host = c.requires.host;
  maps = rw (c.unwrap.ensures, c.table_mut.ensures.value) at c.map.ensures.ok;
  same = refl;
  reserved = refl;
  to = rw (c.of-owner.ensures, c.of-place.ensures) refl;
}

pub map-requires : goal.map-requires
map-requires c =
    let roots = ap (λ (made : Capacity). made.roots) (c.requires.linked.vms _ _ c.slot_mut-slot.ensures.value) in
    rw (c.table_mut.ensures.value, roots) (root-in c.args.config.now.version c.args.gfn c.requires.within)

pub unwrap-requires : goal.unwrap-requires
unwrap-requires c =
    let at = c.slot_mut-slot.ensures.value in
    map-ok _ _ (map-fits (state_of c.args.config.now c.args.parts.now) c.args.vm c.args.gfn c.slot_mut-slot.result.now _ (slot-is c.args.config.now c.args.parts.now _ c.slot_mut-slot.result.now c.requires.exists at) (c.requires.linked.vms _ _ at) c.requires.unmapped c.requires.fits)
    (rw c.table_mut.ensures.value at c.map.ensures.answer)

pub append_vm-requires-clause-here : goal.append_vm-requires-clause-here
append_vm-requires-clause-here c = ap is_some (vm-set c.args.parts.now c.args.vm c.slot_mut-slot.result.now _ c.slot_mut-slot.ensures.value)

pub append_vm-requires-clause-lists : goal.append_vm-requires-clause-lists
append_vm-requires-clause-lists c = (linked-owned _ _ _ _ _ _ _ _ _ (handing (goal.at.append_vm-requires-clause-lists c).After-page_mut-page)).lists

pub append_vm-requires-clause-loose : goal.append_vm-requires-clause-loose
append_vm-requires-clause-loose c = loose-owned _ _ _ _ _ _ _ _ _ (handing (goal.at.append_vm-requires-clause-loose c).After-page_mut-page)

pub append_vm-requires-clause-mine : goal.append_vm-requires-clause-mine
append_vm-requires-clause-mine c = owner-owned _ _ _ _ _ _ _ _ _ (handing (goal.at.append_vm-requires-clause-mine c).After-page_mut-page)

pub returns-clause-state : goal.returns-clause-state
returns-clause-state c =
    let is = handing (goal.at.returns-clause-state c).After-page_mut-page in
    state-handed _ _ _ _ _ _ _ _ _ is c.append_vm.new.self c.append_vm.ensures.rest c.append_vm.ensures.frames (c.requires.linked.frames c.args.frame (ap is_some is.at))

pub returns-clause-linked : goal.returns-clause-linked
returns-clause-linked c = c.append_vm.ensures.rest.linked _ (linked-owned _ _ _ _ _ _ _ _ _ (handing (goal.at.returns-clause-linked c).After-page_mut-page))

pub returns-clause-places : goal.returns-clause-places
returns-clause-places c = places-handed _ _ _ _ _ _ _ _ _ (handing (goal.at.returns-clause-places c).After-page_mut-page) c.append_vm.new.self c.append_vm.ensures.rest
