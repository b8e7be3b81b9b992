use Rattle.std.proofs.Common.{ℕ, ◌≡◌, ◌<◌, ◌++◌, ◌∷◌, [], Some, sym, ap, ◌∙◌}
use Rattle.kc_types.specs.declared.owner.Owner.TheVariants.{Vm}
use Rattle.kc_model.specs.Lawful.{times_in}
use Rattle.kc_links.specs.Ending.{listed}
use Rattle.kc_parts.specs.Parts.{vm_at, links_of, with_vm, with_ends}
use Rattle.kc_parts.specs.States.{owner_at, listed_frames}
use Rattle.kc_parts.proofs.FreeMoves.{owned-appended}
use Rattle.kc_parts.proofs.SlotLists.{slot-moved, frames-moved, frames-here, ends-here, slot-owned, ends-set}
use Rattle.kc_parts.proofs.parts.Parts.append_vm.Goals as goal
use Rattle.kc_parts.proofs.parts.Parts.append_vm.Goals.{In-Some, After-set_list}

at : (c : In-Some) → vm_at c.args.self.now c.args.vm ≡ Some c.in-Some.slot.now
at c = sym (rw c.in-Some.is at c.try_slot.ensures)

-- the list and the frame after it are the slot's
own : (c : In-Some) → (f : ℕ) → 0 < times_in (listed (links_of c.args.self.now) c.in-Some.slot.now.slot.frames ++ c.args.frame ∷ []) f → owner_at c.args.self.now f ≡ Vm c.args.vm
own c = owned-appended (owner_at c.args.self.now) (Vm c.args.vm) (listed (links_of c.args.self.now) c.in-Some.slot.now.slot.frames) c.args.frame (slot-owned c.args.self.now c.args.vm c.in-Some.slot.now c.requires.lists (at c)) c.requires.mine

-- the slot has the list with the frame after it
longer : (c : After-set_list) → c.set_list.new.self ≡ with_vm c.append.new.store c.args.vm (with_ends c.in-Some.slot.now c.append.new.ends)
longer c = ends-set c.args.self.now c.append.new.store c.set_list.new.self c.args.vm c.in-Some.slot.now c.append.new.ends c.append.ensures.rest.vms (at (goal.at.After-set_list c).In-Some) c.set_list.ensures

pub append-requires-clause-list : goal.append-requires-clause-list
append-requires-clause-list c =
    rw c.list.ensures (c.requires.lists.spelled (Vm c.args.vm) c.in-Some.slot.now.slot.frames (ends-here c.args.self.now c.args.vm c.in-Some.slot.now (at (goal.at.append-requires-clause-list c).In-Some)))

pub append-requires-clause-apart : goal.append-requires-clause-apart
append-requires-clause-apart c =
    rw c.list.ensures (c.requires.loose.absent (Vm c.args.vm) c.in-Some.slot.now.slot.frames (ends-here c.args.self.now c.args.vm c.in-Some.slot.now (at (goal.at.append-requires-clause-apart c).In-Some)))

pub returns-in-Some-clause-frames : goal.returns-in-Some-clause-frames
returns-in-Some-clause-frames c =
    let k = goal.at.returns-in-Some-clause-frames c in
    ap (λ h. listed_frames h c.args.vm) (longer k.After-set_list)
    ∙ frames-moved c.args.self.now c.append.new.store c.args.vm c.in-Some.slot.now c.append.new.ends (listed (links_of c.args.self.now) c.in-Some.slot.now.slot.frames ++ c.args.frame ∷ []) c.append.ensures.rest (at k.In-Some) c.requires.lists (rw c.list.ensures at c.append.ensures.others) (own k.In-Some)
    ∙ rw c.list.ensures at c.append.ensures.frames
    ∙ ap (λ fs. fs ++ c.args.frame ∷ []) (sym (frames-here c.args.self.now c.args.vm c.in-Some.slot.now (at k.In-Some)))

pub returns-in-Some-clause-rest : goal.returns-in-Some-clause-rest
returns-in-Some-clause-rest c =
    let k = goal.at.returns-in-Some-clause-rest c in
    rw (longer k.After-set_list)
    (slot-moved c.args.self.now c.append.new.store c.args.vm c.in-Some.slot.now c.append.new.ends (listed (links_of c.args.self.now) c.in-Some.slot.now.slot.frames ++ c.args.frame ∷ []) c.append.ensures.rest (at k.In-Some) c.requires.lists (rw c.list.ensures at c.append.ensures.others) (own k.In-Some)
    c.append.ensures.list (λ g some. rw (c.append.ensures.frames, c.list.ensures) at some))
