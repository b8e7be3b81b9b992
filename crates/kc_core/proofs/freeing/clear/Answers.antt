use Rattle.std.proofs.Common.{◌≡◌, ◌<◌, None, IsSome, is_some, refl, ap, ◌∙◌, Err, arith}
use Rattle.kc_types.specs.Configuration.{slot_count}
use Rattle.kc_types.specs.declared.resource.Resource.TheVariants as resource
use Rattle.kc_types.specs.declared.call.Call.TheVariants.{Clear}
use Rattle.kc_types.specs.declared.reply.Reply.TheVariants as reply
use Rattle.kc_model.specs.Refusals.{refusal}
use Rattle.kc_parts.specs.Parts.{vm_at}
use Rattle.kc_parts.specs.States.{state_of}
use Rattle.kc_core.specs.Applying.{IsAble}
use Rattle.kc_core.proofs.Needed.{slot-needed}
use Rattle.kc_core.proofs.Frames.{places-emptied, places-move, places-through}
use Rattle.kc_core.proofs.Answered.{answer-refused, answer-served}
use Rattle.kc_core.proofs.Clears.{IsClearing, clear-served, the-slot, list-cleared, owned-cleared, apart-cleared, state-cleared}
use Rattle.kc_core.proofs.freeing.clear.Goals as goal
use Rattle.kc_core.proofs.freeing.clear.Goals.{In_ok-slot, After-empty_slot-list}

able : (c : In_ok-slot) → IsAble c.args.config.now c.args.parts.now (Clear c.in_ok-slot.slot)
able c = rw c.in_ok-slot.ensures.slot c.requires

served : (c : In_ok-slot) → refusal (state_of c.args.config.now c.args.parts.now) (Clear c.in_ok-slot.slot) ≡ None
served c = rw c.in_ok-slot.ensures.slot c.in_ok-slot.ensures.answer

low : (c : In_ok-slot) → c.in_ok-slot.slot < slot_count c.args.config.now
low c = clear-served (state_of c.args.config.now c.args.parts.now) _ (served c)

here : (c : In_ok-slot) → IsSome (vm_at c.args.parts.now c.in_ok-slot.slot)
here c = slot-needed _ _ _ (able c) c.in_ok-slot.slot refl (low c)

clearing : (c : After-empty_slot-list) → IsClearing c.args.config.now c.args.parts.now c.empty_slot-list.new.self c.in_ok-slot.slot c.empty_slot-list.result
clearing c =
    let k = (goal.at.After-empty_slot-list c).In_ok-slot in
    record { linked = c.requires.linked; low = low k; there = the-slot _ (here k); emptied = c.empty_slot-list.ensures.rest; had = c.empty_slot-list.ensures.list }

pub empty_slot-list-requires : goal.empty_slot-list-requires
empty_slot-list-requires c = here (goal.at.empty_slot-list-requires c).In_ok-slot

pub append_list-requires-clause-here : goal.append_list-requires-clause-here
append_list-requires-clause-here c = ap is_some c.empty_slot-list.ensures.rest.free ∙ c.requires.here resource.Free refl

pub append_list-requires-clause-lists : goal.append_list-requires-clause-lists
append_list-requires-clause-lists c = (c.empty_slot-list.ensures.rest.linked c.args.config.now c.requires.linked).lists

pub append_list-requires-clause-list : goal.append_list-requires-clause-list
append_list-requires-clause-list c = list-cleared _ _ _ _ _ (clearing (goal.at.append_list-requires-clause-list c).After-empty_slot-list)

pub append_list-requires-clause-apart : goal.append_list-requires-clause-apart
append_list-requires-clause-apart c = apart-cleared _ _ _ _ _ (clearing (goal.at.append_list-requires-clause-apart c).After-empty_slot-list)

pub append_list-requires-clause-free : goal.append_list-requires-clause-free
append_list-requires-clause-free c = owned-cleared _ _ _ _ _ (clearing (goal.at.append_list-requires-clause-free c).After-empty_slot-list)

pub returns : goal.returns
returns c =
    let k = goal.at.returns c in
    let empty = c.empty_slot-list.ensures.rest in
    let move = c.append_list.ensures.rest in
    rw (← c.in_ok-slot.ensures.slot) (answer-served c.args.config.now c.args.parts.now c.append_list.new.self (Clear c.in_ok-slot.slot) reply.Done (served k.In_ok-slot) refl
    (state-cleared _ _ _ _ _ (clearing k.After-empty_slot-list) c.append_list.new.self move c.append_list.ensures.frames)
    (move.linked _ (empty.linked _ c.requires.linked))
    (places-through _ _ _ (places-emptied _ _ _ _ c.requires.linked empty) (places-move _ _ move)))

pub returns-in_err-slot : goal.returns-in_err-slot
returns-in_err-slot c =
    let is : c.from_residual.result ≡ Err c.in_err-slot.field-0.0 = grind arith in
    rw is (answer-refused _ _ _ _ c.requires.linked c.in_err-slot.ensures.answer)
