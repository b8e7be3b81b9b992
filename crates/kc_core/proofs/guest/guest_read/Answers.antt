use Rattle.std.proofs.Common.{◌≡◌, ◌<◌, ◌≤◌, ◌+◌, Some, None, is_some, IsSome, refl, sym, ap, ◌∙◌, Err, arith}
use Rattle.kc_types.specs.Configuration.{slot_count}
use Rattle.kc_types.specs.declared.call.Call.TheVariants.{GuestRead}
use Rattle.kc_types.specs.declared.reply.Reply.TheVariants as reply
use Rattle.kc_model.specs.State.{mapped_at}
use Rattle.kc_model.specs.Effects.{guest_read}
use Rattle.kc_model.proofs.Lawful.GuestCalls.{IsGuestCall, guest_access-served}
use Rattle.kc_parts.specs.Parts.{vm_at}
use Rattle.kc_parts.specs.States.{state_of}
use Rattle.kc_core.proofs.Needed.{slot-needed, mapped-needed}
use Rattle.kc_core.specs.declared.unserved.Unserved.TheVariants as unserved
use Rattle.kc_core.proofs.Answered.{answer-refused, answer-served}
use Rattle.kc_core.proofs.Guests.{read-mapped, fault-at, waits-at}
use Rattle.kc_core.proofs.Reading.{guest-data}
use Rattle.kc_core.proofs.guest.guest_read.Goals as goal
use Rattle.kc_core.proofs.guest.guest_read.Goals.{In_ok-at, In-Some, In_default}

seen : (c : In_ok-at) → IsGuestCall (state_of c.args.config.now c.args.parts.now) c.args.vm c.args.vcpu c.args.gfn × (c.args.offset + c.args.len ≤ 4096)
seen c = guest_access-served _ _ _ _ _ _ c.in_ok-at.ensures.answer

low : (c : In_ok-at) → c.args.vm < slot_count c.args.config.now
low c = (seen c).0.vm

exists : (c : In_ok-at) → c.in_ok-at.at.vm < slot_count c.args.config.now
exists c = rw c.in_ok-at.ensures.named.vm (low c)

-- the slot is here
here : (c : In_ok-at) → IsSome (vm_at c.args.parts.now c.in_ok-at.at.vm)
here c = rw c.in_ok-at.ensures.named.vm (slot-needed _ _ _ c.requires c.args.vm refl (low c))

mapped : (c : In-Some) → mapped_at (state_of c.args.config.now c.args.parts.now) c.args.vm c.args.gfn ≡ Some c.in-Some.frame
mapped c = sym c.in_ok-at.ensures.mapped ∙ c.in-Some.is

unmapped : (c : In_default) → mapped_at (state_of c.args.config.now c.args.parts.now) c.args.vm c.args.gfn ≡ None
unmapped c = sym c.in_ok-at.ensures.mapped ∙ c.in_default.is

pub page-page-requires : goal.page-page-requires
page-page-requires c =
    let k = goal.at.page-page-requires c in
    mapped-needed _ _ _ c.requires c.args.vm c.args.gfn _ refl (low k.In_ok-at) (mapped k.In-Some)

pub spend_fault-requires-clause-exists : goal.spend_fault-requires-clause-exists
spend_fault-requires-clause-exists c = exists (goal.at.spend_fault-requires-clause-exists c).In_ok-at

pub set_fault-requires-clause-exists : goal.set_fault-requires-clause-exists
set_fault-requires-clause-exists c = exists (goal.at.set_fault-requires-clause-exists c).In_ok-at

pub set_fault-requires-clause-here : goal.set_fault-requires-clause-here
set_fault-requires-clause-here c = here (goal.at.set_fault-requires-clause-here c).In_ok-at

pub set_fault-requires-clause-active : goal.set_fault-requires-clause-active
set_fault-requires-clause-active c = rw c.in_ok-at.ensures.named.vm (seen (goal.at.set_fault-requires-clause-active c).In_ok-at).0.active

pub set_fault-requires-clause-registered : goal.set_fault-requires-clause-registered
set_fault-requires-clause-registered c = rw (c.in_ok-at.ensures.named.vm, c.in_ok-at.ensures.named.vcpu) (seen (goal.at.set_fault-requires-clause-registered c).In_ok-at).0.registered

pub spend_fault-requires-clause-here : goal.spend_fault-requires-clause-here
spend_fault-requires-clause-here c = here (goal.at.spend_fault-requires-clause-here c).In_ok-at

pub returns-in_err-buffer-clause-memory : goal.returns-in_err-buffer-clause-memory
returns-in_err-buffer-clause-memory c = λ refused. guest-data _ _ _ _ _ _ c.in_ok-at.ensures.answer (ap is_some (mapped (goal.at.returns-in_err-buffer-clause-memory c).In-Some))

pub returns-clause-answer : goal.returns-clause-answer
returns-clause-answer c =
    let k = goal.at.returns-clause-answer c in
    let m = state_of c.args.config.now c.args.parts.now in
    let is = mapped k.In-Some in
    answer-served c.args.config.now c.args.parts.now _ (GuestRead c.args.vm c.args.vcpu c.args.gfn c.args.offset c.args.len) (reply.Data c.read-bytes.result) c.in_ok-at.ensures.answer
    (ap reply.Data c.read-bytes.ensures ∙ read-mapped c.args.config.now c.args.parts.now _ c.args.vcpu _ _ _ _ _ c.requires.linked is c.page-page.ensures)
    (c.spend_fault.ensures.state ∙ fault-at m _ _ _ _ None c.in_ok-at.ensures.named ∙ ap (λ there. (guest_read m c.args.vm c.args.vcpu c.args.gfn c.args.offset c.args.len there).1) (sym is))
    c.spend_fault.ensures.linked c.spend_fault.ensures.places

pub returns-in_default-clause-answer : goal.returns-in_default-clause-answer
returns-in_default-clause-answer c =
    let k = goal.at.returns-in_default-clause-answer c in
    let m = state_of c.args.config.now c.args.parts.now in
    let is = unmapped k.In_default in
    answer-served c.args.config.now c.args.parts.now _ (GuestRead c.args.vm c.args.vcpu c.args.gfn c.args.offset c.args.len) (reply.Fault c.args.gfn) c.in_ok-at.ensures.answer
    (ap (λ there. (guest_read m c.args.vm c.args.vcpu c.args.gfn c.args.offset c.args.len there).0) (sym is))
    (c.set_fault.ensures.state ∙ waits-at m _ _ _ _ c.in_ok-at.ensures.named ∙ ap (λ there. (guest_read m c.args.vm c.args.vcpu c.args.gfn c.args.offset c.args.len there).1) (sym is))
    c.set_fault.ensures.linked c.set_fault.ensures.places

pub returns-in_err-at-clause-answer : goal.returns-in_err-at-clause-answer
returns-in_err-at-clause-answer c =
    let is : c.from_residual.result ≡ Err (unserved.Refused c.in_err-at.field-0.0) = grind arith in
    rw is (answer-refused _ _ _ _ c.requires.linked c.in_err-at.ensures.answer)
