use Rattle.std.proofs.Common.{◌≡◌, ◌<◌, ◌≤◌, ◌+◌, Some, None, length, is_some, IsSome, refl, sym, ap, ◌∙◌, Err, arith}
use Rattle.kc_types.specs.Configuration.{slot_count}
use Rattle.kc_types.specs.declared.call.Call.TheVariants.{GuestWrite}
use Rattle.kc_types.specs.declared.reply.Reply.TheVariants as reply
use Rattle.kc_types.specs.declared.resource.Resource.TheVariants as resource
use Rattle.kc_model.specs.State.{State, mapped_at}
use Rattle.kc_model.specs.Refusals.{refusal}
use Rattle.kc_model.specs.Effects.{guest_written, with_fault}
use Rattle.kc_model.proofs.Lawful.GuestCalls.{IsGuestCall, guest_access-served}
use Rattle.kc_parts.specs.Parts.{vm_at}
use Rattle.kc_parts.specs.States.{state_of}
use Rattle.kc_core.proofs.Needed.{slot-needed, mapped-needed}
use Rattle.kc_core.proofs.Frames.{places-through}
use Rattle.kc_core.specs.declared.unserved.Unserved.TheVariants as unserved
use Rattle.kc_core.proofs.Answered.{answer-refused, answer-served}
use Rattle.kc_core.proofs.Reading.{guest-done}
use Rattle.kc_core.proofs.Guests.{fault-at, waits-at}
use Rattle.kc_core.proofs.guest.guest_write.Goals as goal
use Rattle.kc_core.proofs.guest.guest_write.Goals.{In_ok-at, In-Some, In_default}

served : (c : In_ok-at) → refusal (state_of c.args.config.now c.args.parts.now) (GuestWrite c.args.vm c.args.vcpu c.args.gfn c.args.offset c.args.bytes.now) ≡ None
served c = rw (← c.as_slice.ensures.value) c.in_ok-at.ensures.answer

seen : (c : In_ok-at) → IsGuestCall (state_of c.args.config.now c.args.parts.now) c.args.vm c.args.vcpu c.args.gfn × (c.args.offset + length c.args.bytes.now ≤ 4096)
seen c = guest_access-served _ _ _ _ _ _ (served c)

low : (c : In_ok-at) → c.args.vm < slot_count c.args.config.now
low c = (seen c).0.vm

exists : (c : In_ok-at) → c.in_ok-at.at.vm < slot_count c.args.config.now
exists c = rw c.in_ok-at.ensures.named.vm (low c)

-- the slot is here
here : (c : In_ok-at) → IsSome (vm_at c.args.parts.now c.in_ok-at.at.vm)
here c = rw c.in_ok-at.ensures.named.vm (slot-needed _ _ _ c.requires c.args.vm refl (low c))

mapped : (c : In-Some) → mapped_at (state_of c.args.config.now c.args.parts.now) c.args.vm c.args.gfn ≡ Some c.in-Some.frame
mapped c = sym c.in_ok-at.ensures.mapped ∙ c.in-Some.is

unmapped : (c : In_default) → mapped_at (state_of c.args.config.now c.args.parts.now) c.args.vm c.args.gfn ≡ None
unmapped c = sym c.in_ok-at.ensures.mapped ∙ c.in_default.is

pub write_frame-requires-clause-here : goal.write_frame-requires-clause-here
write_frame-requires-clause-here c =
    let k = goal.at.write_frame-requires-clause-here c in
    mapped-needed _ _ _ c.requires c.args.vm c.args.gfn _ refl (low k.In_ok-at) (mapped k.In-Some)

pub write_frame-requires-clause-within : goal.write_frame-requires-clause-within
write_frame-requires-clause-within c = (seen (goal.at.write_frame-requires-clause-within c).In_ok-at).1

pub spend_fault-requires-clause-exists : goal.spend_fault-requires-clause-exists
spend_fault-requires-clause-exists c = exists (goal.at.spend_fault-requires-clause-exists c).In_ok-at

pub set_fault-requires-clause-exists : goal.set_fault-requires-clause-exists
set_fault-requires-clause-exists c = exists (goal.at.set_fault-requires-clause-exists c).In_ok-at

pub set_fault-requires-clause-here : goal.set_fault-requires-clause-here
set_fault-requires-clause-here c = here (goal.at.set_fault-requires-clause-here c).In_ok-at

pub set_fault-requires-clause-active : goal.set_fault-requires-clause-active
set_fault-requires-clause-active c = rw c.in_ok-at.ensures.named.vm (seen (goal.at.set_fault-requires-clause-active c).In_ok-at).0.active

pub set_fault-requires-clause-registered : goal.set_fault-requires-clause-registered
set_fault-requires-clause-registered c = rw (c.in_ok-at.ensures.named.vm, c.in_ok-at.ensures.named.vcpu) (seen (goal.at.set_fault-requires-clause-registered c).In_ok-at).0.registered

pub spend_fault-requires-clause-here : goal.spend_fault-requires-clause-here
spend_fault-requires-clause-here c = c.in_ok-write_frame.ensures.places.here (resource.Vm c.in_ok-at.at.vm) ∙ here (goal.at.spend_fault-requires-clause-here c).In_ok-at

pub returns-clause-answer : goal.returns-clause-answer
returns-clause-answer c =
    let k = goal.at.returns-clause-answer c in
    let m = state_of c.args.config.now c.args.parts.now in
    let is = mapped k.In-Some in
    answer-served c.args.config.now c.args.parts.now _ (GuestWrite c.args.vm c.args.vcpu c.args.gfn c.args.offset c.args.bytes.now) reply.Done (served k.In_ok-at)
    (ap (λ there. (guest_written m c.args.vm c.args.vcpu c.args.gfn c.args.offset c.args.bytes.now there).0) (sym is))
    (c.spend_fault.ensures.state ∙ fault-at _ _ _ _ _ None c.in_ok-at.ensures.named ∙ ap (λ (s : State). with_fault s c.args.vm c.args.vcpu None) c.in_ok-write_frame.ensures.state
    ∙ ap (λ there. (guest_written m c.args.vm c.args.vcpu c.args.gfn c.args.offset c.args.bytes.now there).1) (sym is))
    c.spend_fault.ensures.linked (places-through _ _ _ c.in_ok-write_frame.ensures.places c.spend_fault.ensures.places)

pub returns-in_default-clause-answer : goal.returns-in_default-clause-answer
returns-in_default-clause-answer c =
    let k = goal.at.returns-in_default-clause-answer c in
    let m = state_of c.args.config.now c.args.parts.now in
    let is = unmapped k.In_default in
    answer-served c.args.config.now c.args.parts.now _ (GuestWrite c.args.vm c.args.vcpu c.args.gfn c.args.offset c.args.bytes.now) (reply.Fault c.args.gfn) (served k.In_ok-at)
    (ap (λ there. (guest_written m c.args.vm c.args.vcpu c.args.gfn c.args.offset c.args.bytes.now there).0) (sym is))
    (c.set_fault.ensures.state ∙ waits-at m _ _ _ _ c.in_ok-at.ensures.named ∙ ap (λ there. (guest_written m c.args.vm c.args.vcpu c.args.gfn c.args.offset c.args.bytes.now there).1) (sym is))
    c.set_fault.ensures.linked c.set_fault.ensures.places

pub returns-in_err-write_frame-clause-sparse : goal.returns-in_err-write_frame-clause-sparse
returns-in_err-write_frame-clause-sparse c =
    let k = goal.at.returns-in_err-write_frame-clause-sparse c in
    λ failed. guest-done _ _ _ _ _ _ (served k.In_ok-at) (ap is_some (mapped k.In-Some))

pub returns-in_err-at-clause-answer : goal.returns-in_err-at-clause-answer
returns-in_err-at-clause-answer c =
    let is : c.from_residual.result ≡ Err (unserved.Refused c.in_err-at.field-0.0) = grind arith in
    rw is (answer-refused _ _ _ _ c.requires.linked (rw (← c.as_slice.ensures.value) c.in_err-at.ensures.answer))
