-- Why a virtual processor of a slot of parts cannot make a call.
use Rattle.std.proofs.Common.{ℕ, ◌≡◌, ◌<◌, Bool, not, [], ◌∷◌, get_or, Option, Some, None, sym, ap, ◌∙◌}
use Rattle.kc_types.specs.Configuration.{Configuration, slot_count}
use Rattle.kc_types.specs.declared.refusal.Refusal.{Refusal}
use Rattle.kc_types.specs.declared.refusal.Refusal.TheVariants.{NoVm, WrongPhase, NoVcpu}
use Rattle.kc_types.specs.declared.slot.Phase.{Phase}
use Rattle.kc_model.specs.State.{State, Slot, slot_at, no_slot, absent_vcpu}
use Rattle.kc_model.specs.Refusals.{when, first_of_these, is_empty, is_active, no_vm, not_active, no_vcpu}
use Rattle.kc_vms.specs.Vm.{VmSlot}
use Rattle.kc_parts.specs.Parts.{Held, vm_at, links_of}
use Rattle.kc_parts.specs.States.{slot_in, state_of}
use Rattle.kc_parts.proofs.Seen.{slot-seen}

-- why it cannot make a call, by the phase of its slot and whether it is registered there
abbrev pub refusal_in : Phase → Bool → Option Refusal
refusal_in phase registered = first_of_these (when (is_empty phase) NoVm ∷ when (not (is_active phase)) WrongPhase ∷ when (not registered) NoVcpu ∷ [])

-- the same of a state
abbrev pub vcpu_refusal : State → ℕ → ℕ → Option Refusal
vcpu_refusal m v c = first_of_these (no_vm m v ∷ not_active m v ∷ no_vcpu m v c ∷ [])

refusal-at : (m : State) (v c : ℕ) (slot : Slot) → slot_at m v ≡ slot → vcpu_refusal m v c ≡ refusal_in slot.phase (get_or slot.vcpus c absent_vcpu).registered
refusal-at m v c slot is = ap (λ (s : Slot). refusal_in s.phase (get_or s.vcpus c absent_vcpu).registered) is

pub refusal-absent : (config : Configuration) (h : Held) (v c : ℕ) → v < slot_count config → vm_at h v ≡ None → vcpu_refusal (state_of config h) v c ≡ Some NoVm
refusal-absent config h v c low at = refusal-at (state_of config h) v c no_slot (slot-seen config h v low ∙ ap (slot_in (links_of h)) at)

pub refusal-here : (config : Configuration) (h : Held) (v c : ℕ) (vm : VmSlot) (phase : Phase) (registered : Bool) → v < slot_count config → vm_at h v ≡ Some vm → phase ≡ vm.slot.phase
    → registered ≡ (get_or vm.slot.vcpus c absent_vcpu).registered → vcpu_refusal (state_of config h) v c ≡ refusal_in phase registered
refusal-here config h v c vm phase registered low at in_phase is =
    refusal-at (state_of config h) v c (slot_in (links_of h) (Some vm)) (slot-seen config h v low ∙ ap (slot_in (links_of h)) at)
    ∙ ap (refusal_in vm.slot.phase) (sym is) ∙ ap (λ (p : Phase). refusal_in p registered) (sym in_phase)
