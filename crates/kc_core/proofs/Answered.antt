-- The answer to a call, by its refusal and its effect.
use Rattle.std.proofs.Common.{ℕ, ◌≡◌, ◌↔◌, ◌<◌, ◌≤◌, inl, inr, None, Some, Option, IsSome, refl, sym, ap, ◌∙◌}
use Rattle.std.proofs.lemmas.Bool.{cases_lt}
use Rattle.kc_types.specs.Configuration.{Configuration}
use Rattle.kc_types.specs.declared.call.Call.{Call}
use Rattle.kc_types.specs.declared.refusal.Refusal.{Refusal}
use Rattle.kc_types.specs.declared.reply.Reply.{Reply}
use Rattle.kc_types.specs.declared.reply.Reply.TheVariants as reply
use Rattle.kc_model.specs.State.{State, with_slot}
use Rattle.kc_model.specs.Refusals.{refusal}
use Rattle.kc_model.specs.Effects.{Outcome, effect}
use Rattle.kc_model.specs.Next.{next, unless_refused}
use Rattle.kc_vms.specs.Vm.{VmSlot}
use Rattle.kc_links.specs.Ending.{listed}
use Rattle.kc_parts.specs.Parts.{Held, vm_at, with_vm, links_of}
use Rattle.kc_parts.specs.States.{state_of, unlinked_slot, IsLinked}
use Rattle.kc_parts.proofs.SlotChanges.{vm-same, state-vm, linked-vm}
use Rattle.kc_core.specs.Applying.{IsAnswer, KeepsPlaces}
use Rattle.kc_core.proofs.Frames.{places-same, places-vm}

-- a call by its refusal
next-by : (m : State) (call : Call) (why : Option Refusal) → refusal m call ≡ why → next m call ≡ unless_refused why m call
unfolding next
next-by m call why is = ap (λ why. unless_refused why m call) is

-- a call that is refused, and leaves what is seen as it was
pub answer-kept : (config : Configuration) (old new : Held) (call : Call) (why : Refusal) → refusal (state_of config old) call ≡ Some why → state_of config new ≡ state_of config old → IsLinked config new → KeepsPlaces old new
    → IsAnswer config old new call (reply.Refused why)
answer-kept config old new call why is same linked places =
    let by = next-by (state_of config old) call (Some why) is in
    record {
      reply = sym (ap (λ (o : Outcome). o.0) by);
      state = same ∙ sym (ap (λ (o : Outcome). o.1) by);
      linked = linked;
      places = places;
    }

pub answer-refused : (config : Configuration) (h : Held) (call : Call) (why : Refusal) → IsLinked config h → refusal (state_of config h) call ≡ Some why → IsAnswer config h h call (reply.Refused why)
answer-refused config h call why linked is = answer-kept config h h call why is refl linked (places-same h)

-- a call that is served
pub answer-served : (config : Configuration) (old new : Held) (call : Call) (reply : Reply) → refusal (state_of config old) call ≡ None → reply ≡ (effect (state_of config old) call).0 → state_of config new ≡ (effect (state_of config old) call).1
    → IsLinked config new → KeepsPlaces old new → IsAnswer config old new call reply
answer-served config old new call reply served replied left linked places =
    let by = next-by (state_of config old) call None served in
    record {
      reply = replied ∙ sym (ap (λ (o : Outcome). o.0) by);
      state = left ∙ sym (ap (λ (o : Outcome). o.1) by);
      linked = linked;
      places = places;
    }

-- a call that changes only a slot, and not the ends of the slot's list
pub answer-slot : (config : Configuration) (h : Held) (v : ℕ) (vm new : VmSlot) (call : Call) (reply : Reply) → IsLinked config h → vm_at h v ≡ Some vm → new.slot.frames ≡ vm.slot.frames → new.capacity ≡ vm.capacity
    → refusal (state_of config h) call ≡ None → effect (state_of config h) call ≡ (reply, with_slot (state_of config h) v (unlinked_slot new.slot (listed (links_of h) new.slot.frames)))
    → IsAnswer config h (with_vm h v new) call reply
answer-slot config h v vm new call reply linked at ends capacity served does =
    answer-served config h (with_vm h v new) call reply served (sym (ap (λ (o : Outcome). o.0) does)) (state-vm config h v vm new at ∙ sym (ap (λ (o : Outcome). o.1) does)) (linked-vm config h v vm new linked at ends capacity) (places-vm h v vm new at)

-- a call that the slot refuses
pub answer-slot_refused : (config : Configuration) (h : Held) (v : ℕ) (vm new : VmSlot) (call : Call) (why : Refusal) → IsLinked config h → vm_at h v ≡ Some vm → new ≡ vm
    → refusal (state_of config h) call ≡ Some why → IsAnswer config h (with_vm h v new) call (reply.Refused why)
answer-slot_refused config h v vm new call why linked at same is = rw (same, vm-same h v vm at) (answer-refused config h call why linked is)

-- a number that is refused is not below the limit
pub past-limit : {X : Type 0} (number : Option X) (n limit : ℕ) → number ≡ None → (IsSome number ↔ (n < limit)) → limit ≤ n
past-limit number n limit none valid = elim (cases_lt n limit) [
  | inl low ↦ let some = rw none at (valid.1 low) in cc
  | inr past ↦ past
]
