use Rattle.std.proofs.Common.{◌≡◌, Some, None, refl, sym, ap, ◌∙◌, Err, arith}
use Rattle.std.specs.Option.{option_map}
use Rattle.kc_types.specs.declared.resource.Resource.TheVariants as resource
use Rattle.kc_types.specs.declared.call.Call.TheVariants.{Drop}
use Rattle.kc_types.specs.declared.reply.Reply.TheVariants as reply
use Rattle.kc_model.specs.State.{mapped_at}
use Rattle.kc_model.specs.Refusals.{refusal}
use Rattle.kc_model.proofs.Lawful.GuestCalls.{IsMappedCall, guest_frame-served}
use Rattle.kc_vms.specs.Vm.{VmSlot}
use Rattle.kc_parts.specs.States.{state_of}
use Rattle.kc_parts.proofs.SlotChanges.{vm-set}
use Rattle.kc_core.specs.Applying.{IsAble}
use Rattle.kc_core.proofs.Frames.{places-through}
use Rattle.kc_core.proofs.Needed.{slot-needed, mapped-needed}
use Rattle.kc_core.proofs.Answered.{answer-refused, answer-served}
use Rattle.kc_core.proofs.Drops.{IsUnmapping, linked-unmapped, inside-unmapped, state-dropped, places-unlinked, near-unlinked}
use Rattle.kc_core.proofs.freeing.drop_page.Goals as goal
use Rattle.kc_core.proofs.freeing.drop_page.Goals.{In_ok-found, After-unmap}

able : (c : In_ok-found) → IsAble c.args.config.now c.args.parts.now (Drop c.in_ok-found.found.vm c.args.vcpu c.in_ok-found.found.gfn)
able c = rw (c.in_ok-found.ensures.mapped.vm, c.in_ok-found.ensures.mapped.gfn) c.requires

served : (c : In_ok-found) → refusal (state_of c.args.config.now c.args.parts.now) (Drop c.in_ok-found.found.vm c.args.vcpu c.in_ok-found.found.gfn) ≡ None
served c = rw (c.in_ok-found.ensures.mapped.vm, c.in_ok-found.ensures.mapped.gfn) c.in_ok-found.ensures.answer

seen : (c : In_ok-found) → IsMappedCall (state_of c.args.config.now c.args.parts.now) c.in_ok-found.found.vm c.args.vcpu c.in_ok-found.found.gfn
seen c = (guest_frame-served _ _ _ _ _ (served c)).0

mapped : (c : In_ok-found) → mapped_at (state_of c.args.config.now c.args.parts.now) c.in_ok-found.found.vm c.in_ok-found.found.gfn ≡ Some c.in_ok-found.found.frame
mapped c = rw (c.in_ok-found.ensures.mapped.vm, c.in_ok-found.ensures.mapped.gfn) c.in_ok-found.ensures.mapped.mapped

unmapping : (c : After-unmap) → IsUnmapping c.args.config.now c.args.parts.now c.in_ok-found.found.vm c.in_ok-found.found.gfn c.in_ok-found.found.frame c.slot_mut-slot.result.now c.unmap.new.self
unmapping c =
    let k = (goal.at.After-unmap c).In_ok-found in
    record {
      orderly = c.requires.orderly;
      linked = c.requires.linked;
      low = (seen k).call.vm;
      at = c.slot_mut-slot.ensures.value;
      mapped = mapped k;
      is_left = rw c.table_mut.ensures.value at c.unmap.ensures.table;
    }

pub slot_mut-slot-requires : goal.slot_mut-slot-requires
slot_mut-slot-requires c = let k = (goal.at.slot_mut-slot-requires c).In_ok-found in slot-needed _ _ _ (able k) c.in_ok-found.found.vm refl (seen k).call.vm

pub unlink_vm-requires-clause-ends : goal.unlink_vm-requires-clause-ends
unlink_vm-requires-clause-ends c = ap (option_map (λ (vm : VmSlot). vm.slot.frames)) (vm-set c.args.parts.now c.in_ok-found.found.vm c.slot_mut-slot.result.now _ c.slot_mut-slot.ensures.value) ∙ ap Some (sym c.list-list.ensures)

pub unlink_vm-requires-clause-lists : goal.unlink_vm-requires-clause-lists
unlink_vm-requires-clause-lists c = (linked-unmapped _ _ _ _ _ _ _ (unmapping (goal.at.unlink_vm-requires-clause-lists c).After-unmap)).lists

pub unlink_vm-requires-clause-inside : goal.unlink_vm-requires-clause-inside
unlink_vm-requires-clause-inside c = inside-unmapped _ _ _ _ _ _ _ (unmapping (goal.at.unlink_vm-requires-clause-inside c).After-unmap)

pub free_frame-requires-clause-linked : goal.free_frame-requires-clause-linked
free_frame-requires-clause-linked c = c.unlink_vm.ensures.rest.linked _ (linked-unmapped _ _ _ _ _ _ _ (unmapping (goal.at.free_frame-requires-clause-linked c).After-unmap))

pub free_frame-requires-clause-here : goal.free_frame-requires-clause-here
free_frame-requires-clause-here c =
    let k = (goal.at.free_frame-requires-clause-here c).In_ok-found in
    c.unlink_vm.ensures.rest.here (resource.Frame c.in_ok-found.found.frame) ∙ mapped-needed _ _ _ (able k) c.in_ok-found.found.vm c.in_ok-found.found.gfn _ refl (seen k).call.vm (mapped k)

pub free_frame-requires-clause-free : goal.free_frame-requires-clause-free
free_frame-requires-clause-free c = c.unlink_vm.ensures.rest.here resource.Free ∙ c.requires.here resource.Free refl

pub free_frame-requires-clause-near : goal.free_frame-requires-clause-near
free_frame-requires-clause-near c =
    near-unlinked _ _ _ _ _ _ _ (unmapping (goal.at.free_frame-requires-clause-near c).After-unmap) c.unlink_vm.new.self c.unlink_vm.ensures.rest

pub returns : goal.returns
returns c =
    let k = goal.at.returns c in
    let is = unmapping k.After-unmap in
    let left = c.unlink_vm.ensures in
    let done = c.free_frame.ensures in
    rw (← c.in_ok-found.ensures.mapped.vm, ← c.in_ok-found.ensures.mapped.gfn) (answer-served c.args.config.now c.args.parts.now c.free_frame.new.parts (Drop c.in_ok-found.found.vm c.args.vcpu c.in_ok-found.found.gfn) reply.Done (served k.In_ok-found) refl
    (state-dropped _ _ _ _ _ _ _ is c.unlink_vm.new.self c.free_frame.new.parts left.rest left.frames done.state) done.linked
    (places-through _ _ _ (places-unlinked _ _ _ _ _ _ _ is c.unlink_vm.new.self left.rest) done.places))

pub returns-in_err-found : goal.returns-in_err-found
returns-in_err-found c =
    let is : c.from_residual.result ≡ Err c.in_err-found.field-0.0 = grind arith in
    rw is (answer-refused _ _ _ _ c.requires.linked c.in_err-found.ensures.answer)
