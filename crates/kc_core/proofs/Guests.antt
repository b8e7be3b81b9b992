-- A virtual processor's calls on parts.
use Rattle.std.proofs.Common.{ℕ, ◌≡◌, ◌<◌, ◌+◌, ap₂, Option, Some, None, is_some, get_or, slice_range, sym, ap, ◌∙◌}
use Rattle.std.proofs.lemmas.Bool.{leb-false}
use Rattle.kc_types.specs.Configuration.{Configuration, slot_count}
use Rattle.kc_types.specs.declared.reply.Reply.TheVariants as reply
use Rattle.kc_types.specs.declared.call.Call.TheVariants.{GuestRead, Grant}
use Rattle.kc_model.specs.State.{State, Frame, Slot, mapped_at, absent_vcpu, with_slot, with_vcpu}
use Rattle.kc_model.specs.Refusals.{refusal, share_at}
use Rattle.kc_model.specs.Effects.{effect, guest_read, with_fault}
use Rattle.kc_model.proofs.Refusals.Served.{when-none}
use Rattle.kc_model.proofs.Lawful.GuestCalls.{guest_frame-served}
use Rattle.kc_page.specs.declared.page.Page.{Page}
use Rattle.kc_vms.specs.Vm.{VmSlot}
use Rattle.kc_model.specs.Slot as slots
use Rattle.kc_parts.specs.Parts.{Held, page_at, vm_at, with_vm}
use Rattle.kc_parts.specs.States.{state_of, IsLinked}
use Rattle.kc_parts.proofs.SlotChanges.{state-vm}
use Rattle.kc_core.specs.declared.naming.GuestFrame.{GuestFrame}
use Rattle.kc_core.specs.Guests.{IsAt}
use Rattle.kc_core.proofs.Frames.{frame-is}
use Rattle.kc_parts.proofs.Looked.{slot-is}

-- a frame that is granted once more has fewer than 100 grants
pub few-granted : (m : State) (v c g : ℕ) → refusal m (Grant v c g) ≡ None → share_at m v g < 100
few-granted m v c g served = leb-false 100 _ (when-none _ _ (guest_frame-served m v c g _ served).1)

-- the state if a virtual processor of a slot that is here waits for another guest frame, or for none
pub state-faulted : (config : Configuration) (h : Held) (v c : ℕ) (fault : Option ℕ) (vm new : VmSlot) → v < slot_count config → vm_at h v ≡ Some vm → new ≡ record vm { slot = slots.awaiting vm.slot c fault }
    → state_of config (with_vm h v new) ≡ with_fault (state_of config h) v c fault
state-faulted config h v c fault vm new low at is =
    let m : State = state_of config h in
    state-vm config h v vm new at ∙ rw is (ap (λ (there : Slot). with_slot m v (with_vcpu there c (record (get_or there.vcpus c absent_vcpu) { fault = fault }))) (sym (slot-is config h v vm low at)))

-- the virtual processor that waits, by the numbers that were given
pub fault-at : (m : State) (v c g : ℕ) (at : GuestFrame) (fault : Option ℕ) → IsAt v c g at → with_fault m at.vm at.vcpu fault ≡ with_fault m v c fault
fault-at m v c g at fault is = ap₂ (λ (v c : ℕ). with_fault m v c fault) is.vm is.vcpu

pub waits-at : (m : State) (v c g : ℕ) (at : GuestFrame) → IsAt v c g at → with_fault m at.vm at.vcpu (Some at.gfn) ≡ with_fault m v c (Some g)
waits-at m v c g at is = fault-at m v c g at (Some at.gfn) is ∙ ap (λ g. with_fault m v c (Some g)) is.gfn

-- the bytes of the page at a guest frame are those that are read
pub read-mapped : (config : Configuration) (h : Held) (v c g off len f : ℕ) (page : Page) → IsLinked config h → mapped_at (state_of config h) v g ≡ Some f → page_at h f ≡ Some page
    → reply.Data (slice_range page.bytes.bytes off (off + len)) ≡ (effect (state_of config h) (GuestRead v c g off len)).0
read-mapped config h v c g off len f page linked mapped at =
    let m : State = state_of config h in
    ap (λ (frame : Frame). reply.Data (slice_range frame.bytes off (off + len))) (sym (frame-is config h f page (linked.frames f (ap is_some at)) at))
    ∙ ap (λ there. (guest_read m v c g off len there).0) (sym mapped)
