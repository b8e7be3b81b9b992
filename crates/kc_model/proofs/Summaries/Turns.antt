-- How one call turns a slot's phase.
use Rattle.std.proofs.Common.{ℕ, ◌≡◌, ◌<◌, inl, inr, List, [], length, get_or, Option, None, Some, refl, sym, ap, subst, ◌∙◌}
use Rattle.std.proofs.lemmas.Bool.{cases_eq}
use Rattle.kc_types.specs.Configuration.{slot_count}
use Rattle.kc_types.specs.declared.refusal.Refusal.{Refusal}
use Rattle.kc_types.specs.declared.slot.Phase.TheVariants.{Empty, Booting, Active, Dead}
use Rattle.kc_types.specs.declared.call.Call.{Call}
use Rattle.kc_types.specs.declared.call.Call.TheVariants.{RegisterVm, Verify, Clear}
use Rattle.kc_types.specs.declared.reply.Reply.{Reply}
use Rattle.kc_model.specs.State.{State, Slot, slot_at, with_slot, no_slot, empty_slot}
use Rattle.kc_model.specs.Slot.{in_phase}
use Rattle.kc_model.specs.Refusals.{refusal, conditions}
use Rattle.kc_model.specs.Effects.{effect, verified, all_trimmed, unapproved}
use Rattle.kc_model.specs.Next.{next, unless_refused}
use Rattle.kc_model.specs.Lawful.{IsLawful}
use Rattle.kc_model.specs.Safety.{Clears}
use Rattle.kc_model.specs.Summaries.{registered_by}
use Rattle.kc_model.proofs.Refusals.Served.{none-of}
use Rattle.kc_model.proofs.Refusals.Answered.{vm-in, was-empty}
use Rattle.kc_model.proofs.States.Phases.{phase-effect, phase-elsewhere}
use Rattle.kc_model.proofs.States.Changes.{slot-here}
use Rattle.kc_model.proofs.Lawful.Verifies.{slots-trimmed, verify-served}

-- the slot keeps its phase, is registered without frames, is measured, or is cleared
pub data Turns (v : ℕ) (m : State) (call : Call) (answer : Reply) (new : State) : Type 0 where
  stays : (slot_at new v).phase ≡ (slot_at m v).phase → Turns v m call answer new
  registers : registered_by call answer ≡ Some v → (slot_at m v).phase ≡ Empty → (slot_at new v).phase ≡ Booting → (slot_at new v).frames ≡ [] → Turns v m call answer new
  activates : (slot_at m v).phase ≡ Booting → (slot_at new v).phase ≡ Active → Turns v m call answer new
  rejects : (slot_at m v).phase ≡ Booting → (slot_at new v).phase ≡ Dead → Turns v m call answer new
  clears : Clears v call answer → (slot_at new v).phase ≡ Empty → Turns v m call answer new

phase-here : (m : State) (w : ℕ) (slot : Slot) (v : ℕ) → w < length m.slots → v ≡ w → slot_at (with_slot m w slot) v ≡ slot
phase-here m w slot v low same = ap (λ k. slot_at (with_slot m w slot) k) same ∙ slot-here m w slot low

turns-verify : (v : ℕ) (m : State) (w : ℕ) (first : Option ℕ) → w < length m.slots → (slot_at m w).phase ≡ Booting → Turns v m (Verify w) (verified m w first).0 (verified m w first).1
turns-verify v m w None low booting =
    let trimmed = all_trimmed m w (slot_at m w).images in
    let same = slots-trimmed m w (slot_at m w).images in
    elim (cases_eq v w) [
      | inl here ↦ activates (ap (λ k. (slot_at m k).phase) here ∙ booting) (ap (λ (s : Slot). s.phase) (phase-here trimmed w (in_phase (slot_at trimmed w) Active) v (rw same low) here))
      | inr other ↦ stays (phase-elsewhere trimmed w (in_phase (slot_at trimmed w) Active) v other ∙ ap (λ (slots : List Slot). (get_or slots v no_slot).phase) same)
    ]
turns-verify v m w (Some i) low booting = elim (cases_eq v w) [
  | inl here ↦ rejects (ap (λ k. (slot_at m k).phase) here ∙ booting) (ap (λ (s : Slot). s.phase) (phase-here m w (in_phase (slot_at m w) Dead) v low here))
  | inr other ↦ stays (phase-elsewhere m w (in_phase (slot_at m w) Dead) v other)
]

turns-register : (v : ℕ) (m : State) (w : ℕ) → IsLawful m → refusal m (RegisterVm w) ≡ None → Turns v m (RegisterVm w) (effect m (RegisterVm w)).0 (effect m (RegisterVm w)).1
turns-register v m w is served =
    let within = vm-in m w (none-of (conditions m (RegisterVm w)) served 0) in
    let low : w < length m.slots = rw is.slots within in
    let empty = was-empty m w _ (none-of (conditions m (RegisterVm w)) served 1) in
    let new = in_phase (slot_at m w) Booting in
    elim (cases_eq v w) [
      | inl here ↦
          let set = phase-here m w new v low here in
          registers (ap Some (sym here)) (ap (λ k. (slot_at m k).phase) here ∙ empty) (ap (λ (s : Slot). s.phase) set)
          (ap (λ (s : Slot). s.frames) set ∙ ap (λ (s : Slot). s.frames) ((is.each_slot w within).empty empty))
      | inr other ↦ stays (phase-elsewhere m w new v other)
    ]

turns-clear : (v : ℕ) (m : State) (w : ℕ) → IsLawful m → refusal m (Clear w) ≡ None → Turns v m (Clear w) (effect m (Clear w)).0 (effect m (Clear w)).1
turns-clear v m w is served =
    let low : w < length m.slots = rw is.slots (vm-in m w (none-of (conditions m (Clear w)) served 0)) in
    elim (cases_eq v w) [
      | inl here ↦ clears (sym here) (ap (λ (s : Slot). s.phase) (phase-here m w (empty_slot m.config.version) v low here))
      | inr other ↦ stays (phase-elsewhere m w (empty_slot m.config.version) v other)
    ]

turns-effect : (v : ℕ) (m : State) (call : Call) → IsLawful m → refusal m call ≡ None → Turns v m call (effect m call).0 (effect m call).1
turns-effect v m (RegisterVm w) is served = turns-register v m w is served
turns-effect v m (Verify w) is served = turns-verify v m w (unapproved m w) (rw is.slots (verify-served m w served).0) (verify-served m w served).1
turns-effect v m (Clear w) is served = turns-clear v m w is served
turns-effect v m call is served = stays (phase-effect m call v (λ e. cc))

turns-unless : (refused : Option Refusal) (v : ℕ) (m : State) (call : Call) → IsLawful m → refusal m call ≡ refused → Turns v m call (unless_refused refused m call).0 (unless_refused refused m call).1
turns-unless None v m call is served = turns-effect v m call is served
turns-unless (Some r) v m call is served = stays refl

pub turns : (v : ℕ) (m : State) (call : Call) → IsLawful m → Turns v m call (next m call).0 (next m call).1
unfolding next
turns v m call is = turns-unless (refusal m call) v m call is refl

-- a slot that a call registers was empty, and is booting
pub record IsBooted (v : ℕ) (m new : State) : Type 0 where
  pub within : v < slot_count m.config
  pub empty : (slot_at m v).phase ≡ Empty
  pub booting : (slot_at new v).phase ≡ Booting

booted-effect : (v : ℕ) (m : State) (call : Call) → IsLawful m → refusal m call ≡ None → registered_by call (effect m call).0 ≡ Some v → IsBooted v m (effect m call).1
booted-effect v m (RegisterVm w) is served by =
    let within = vm-in m w (none-of (conditions m (RegisterVm w)) served 0) in
    let empty = was-empty m w _ (none-of (conditions m (RegisterVm w)) served 1) in
    let booting = ap (λ (s : Slot). s.phase) (slot-here m w (in_phase (slot_at m w) Booting) (rw is.slots within)) in
    let here : w ≡ v = cc in
    subst (λ k. IsBooted k m (effect m (RegisterVm w)).1) here (record { within = within; empty = empty; booting = booting })
booted-effect v m call is served by = cc

booted-unless : (refused : Option Refusal) (v : ℕ) (m : State) (call : Call) → IsLawful m → refusal m call ≡ refused → registered_by call (unless_refused refused m call).0 ≡ Some v → IsBooted v m (unless_refused refused m call).1
booted-unless None v m call is served by = booted-effect v m call is served by
booted-unless (Some r) v m (RegisterVm w) is served by = cc
booted-unless (Some r) v m call is served by = cc

pub booted : (v : ℕ) (m : State) (call : Call) → IsLawful m → registered_by call (next m call).0 ≡ Some v → IsBooted v m (next m call).1
unfolding next
booted v m call is by = booted-unless (refusal m call) v m call is refl by
