use Rattle.std.proofs.Common.{ℕ, ◌≡◌, ◌<◌, Some, is_some, sym, ap, ◌∙◌}
use Rattle.kc_types.specs.declared.owner.Owner.TheVariants.{Vm}
use Rattle.kc_model.specs.Lawful.{times_in}
use Rattle.kc_model.specs.Effects.{without}
use Rattle.kc_vms.specs.Vm.{VmSlot}
use Rattle.kc_links.specs.Ending.{listed}
use Rattle.kc_links.proofs.Others.{without-same}
use Rattle.kc_parts.specs.Parts.{held_slot, vm_at, links_of, with_vm, with_ends}
use Rattle.kc_parts.specs.States.{listed_frames, owner_at}
use Rattle.kc_parts.proofs.SlotLists.{slot-ended, slot-moved, loose-left, frames-moved, frames-here, slot-owned, ends-set, within-without}
use Rattle.kc_parts.proofs.parts.Parts.unlink_vm.Goals as goal
use Rattle.kc_parts.proofs.parts.Parts.unlink_vm.Goals.{Start, After-set_list}

-- the slot, and its list
abbrev slot : Start → VmSlot
slot c = (slot-ended c.args.self.now c.args.vm c.args.list c.requires.ends).0

at : (c : Start) → vm_at c.args.self.now c.args.vm ≡ Some (slot c)
at c = (slot-ended c.args.self.now c.args.vm c.args.list c.requires.ends).1.0

is_list : (c : Start) → c.args.list ≡ (slot c).slot.frames
is_list c = (slot-ended c.args.self.now c.args.vm c.args.list c.requires.ends).1.1

own : (c : Start) → (f : ℕ) → 0 < times_in (listed (links_of c.args.self.now) (slot c).slot.frames) f → owner_at c.args.self.now f ≡ Vm c.args.vm
own c = slot-owned c.args.self.now c.args.vm (slot c) c.requires.lists (at c)

-- the slot has the rest of the list
left : (c : After-set_list) → c.set_list.new.self ≡ with_vm c.unlink.new.store c.args.vm (with_ends (slot (goal.at.After-set_list c).Start) c.unlink.new.ends)
left c =
    let k = (goal.at.After-set_list c).Start in
    ends-set c.args.self.now c.unlink.new.store c.set_list.new.self c.args.vm (slot k) c.unlink.new.ends c.unlink.ensures.rest.vms (at k) c.set_list.ensures

pub unlink-requires-clause-list : goal.unlink-requires-clause-list
unlink-requires-clause-list c = c.requires.lists.spelled (Vm c.args.vm) c.args.list c.requires.ends

pub unlink-requires-clause-inside : goal.unlink-requires-clause-inside
unlink-requires-clause-inside c =
    let k = (goal.at.unlink-requires-clause-inside c).Start in
    rw (is_list k) (rw (frames-here c.args.self.now c.args.vm (slot k) (at k)) at c.requires.inside)

pub set_list-requires : goal.set_list-requires
set_list-requires c = let k = (goal.at.set_list-requires c).Start in ap (λ vms. is_some (held_slot vms c.args.vm)) c.unlink.ensures.rest.vms ∙ ap is_some (at k)

pub returns-clause-frames : goal.returns-clause-frames
returns-clause-frames c =
    let k = goal.at.returns-clause-frames c in
    let s = k.Start in
    ap (λ h. listed_frames h c.args.vm) (left k.After-set_list)
    ∙ frames-moved c.args.self.now c.unlink.new.store c.args.vm (slot s) c.unlink.new.ends (listed (links_of c.args.self.now) (slot s).slot.frames) c.unlink.ensures.rest (at s) c.requires.lists (rw (is_list s) at c.unlink.ensures.others) (own s)
    ∙ rw (is_list s) at c.unlink.ensures.frames
    ∙ ap (λ fs. without fs c.args.frame) (sym (frames-here c.args.self.now c.args.vm (slot s) (at s)))

pub returns-clause-loose : goal.returns-clause-loose
returns-clause-loose c =
    let k = goal.at.returns-clause-loose c in
    let s = k.Start in
    rw (left k.After-set_list)
    (loose-left c.args.self.now c.unlink.new.store c.args.vm (slot s) c.unlink.new.ends (listed (links_of c.args.self.now) (slot s).slot.frames) c.unlink.ensures.rest (at s) c.requires.lists (rw (is_list s) at c.unlink.ensures.others) (own s)
    c.args.frame (rw (frames-here c.args.self.now c.args.vm (slot s) (at s)) at c.requires.inside) (ap (λ fs. times_in fs c.args.frame) c.unlink.ensures.frames ∙ without-same _ c.args.frame) c.unlink.ensures.alone)

pub returns-clause-rest : goal.returns-clause-rest
returns-clause-rest c =
    let k = goal.at.returns-clause-rest c in
    let s = k.Start in
    rw (left k.After-set_list)
    (slot-moved c.args.self.now c.unlink.new.store c.args.vm (slot s) c.unlink.new.ends (listed (links_of c.args.self.now) (slot s).slot.frames) c.unlink.ensures.rest (at s) c.requires.lists (rw (is_list s) at c.unlink.ensures.others) (own s)
    c.unlink.ensures.list (λ g some. within-without (listed (links_of c.args.self.now) (slot s).slot.frames) c.args.frame g (rw (c.unlink.ensures.frames, is_list s) at some)))
