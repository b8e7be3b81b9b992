-- Why a slot of parts is not verified.
use Rattle.std.proofs.Common.{ℕ, ◌≡◌, ◌<◌, ◌||◌, ◌==◌, Bool, not, [], ◌∷◌, length, Option, Some, None, sym, ap, ◌∙◌}
use Rattle.std.specs.List.{list_any}
use Rattle.std.proofs.lemmas.Bool.{lt-leb}
use Rattle.kc_types.specs.Configuration.{Configuration, slot_count}
use Rattle.kc_types.specs.declared.call.Call.TheVariants.{Verify}
use Rattle.kc_types.specs.declared.refusal.Refusal.{Refusal}
use Rattle.kc_types.specs.declared.refusal.Refusal.TheVariants.{BadVm, NoVm, WrongPhase, ImageShort}
use Rattle.kc_types.specs.declared.slot.Phase.{Phase}
use Rattle.kc_model.specs.State.{Slot, slot_at, no_slot}
use Rattle.kc_model.specs.Refusals.{refusal, when, or_else, first_of_these, is_empty, is_booting, is_short}
use Rattle.kc_vms.specs.Vm.{VmSlot}
use Rattle.kc_parts.specs.Parts.{Held, vm_at, links_of}
use Rattle.kc_parts.specs.States.{slot_in, state_of}
use Rattle.kc_parts.proofs.Seen.{slot-seen}

-- why the verifying of a slot is refused, by its phase and whether it lacks pages
abbrev pub refusal_in : Phase → Bool → Option Refusal
refusal_in phase lacks = first_of_these (when (is_empty phase) NoVm ∷ when (not (is_booting phase)) WrongPhase ∷ when lacks ImageShort ∷ [])

abbrev pub lacks_pages : Slot → Bool
lacks_pages slot = length slot.images == 0 || list_any is_short slot.images

refusal-at : (config : Configuration) (h : Held) (v : ℕ) (slot : Slot) → v < slot_count config → slot_at (state_of config h) v ≡ slot → refusal (state_of config h) (Verify v) ≡ refusal_in slot.phase (lacks_pages slot)
refusal-at config h v slot low is =
    let there : Slot = slot_at (state_of config h) v in
    ap (λ past. or_else (when past BadVm) (refusal_in there.phase (lacks_pages there))) (lt-leb (slot_count config) v low)
    ∙ ap (λ (s : Slot). refusal_in s.phase (lacks_pages s)) is

pub refusal-absent : (config : Configuration) (h : Held) (v : ℕ) → v < slot_count config → vm_at h v ≡ None → refusal (state_of config h) (Verify v) ≡ Some NoVm
refusal-absent config h v low at = refusal-at config h v no_slot low (slot-seen config h v low ∙ ap (slot_in (links_of h)) at)

pub refusal-here : (config : Configuration) (h : Held) (v : ℕ) (vm : VmSlot) (phase : Phase) (lacks : Bool) → v < slot_count config → vm_at h v ≡ Some vm → phase ≡ vm.slot.phase → lacks ≡ lacks_pages (slot_in (links_of h) (Some vm))
    → refusal (state_of config h) (Verify v) ≡ refusal_in phase lacks
refusal-here config h v vm phase lacks low at in_phase lacking =
    refusal-at config h v (slot_in (links_of h) (Some vm)) low (slot-seen config h v low ∙ ap (slot_in (links_of h)) at)
    ∙ ap (refusal_in vm.slot.phase) (sym lacking) ∙ ap (λ (p : Phase). refusal_in p lacks) (sym in_phase)
