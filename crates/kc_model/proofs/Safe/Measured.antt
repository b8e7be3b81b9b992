-- A slot that becomes active was measured.
use Rattle.std.proofs.Common.{ℕ, ◌≡◌, ◌⊎◌, inl, inr, zero, suc, ◌&&◌, cond, ◌+◌, Bool, true, false, List, [], ◌∷◌, get_or, set, refl, sym, ap, subst, ◌∙◌, Option, None, Some, get_or-set_other}
use Rattle.std.proofs.lemmas.Bool.{cases_eq}
use Rattle.kc_types.specs.declared.call.Call.TheVariants.{RegisterVm, Verify, Clear}
use Rattle.kc_types.specs.declared.reply.Reply.{Reply}
use Rattle.kc_types.specs.declared.reply.Reply.TheVariants as reply
use Rattle.kc_types.specs.declared.refusal.Refusal.{Refusal}
use Rattle.kc_model.specs.Refusals.{refusal}
use Rattle.kc_model.specs.Effects.{effect, verified, all_trimmed, unapproved}
use Rattle.kc_model.proofs.States.Approvals.{boot-approved}
use Rattle.kc_model.proofs.States.Phases.{phase-effect}
use Rattle.kc_model.proofs.Lawful.Verifies.{slots-trimmed}
use Rattle.kc_types.specs.declared.call.Call.{Call}
use Rattle.kc_types.specs.declared.slot.Phase.TheVariants.{Active}
use Rattle.kc_model.specs.State.{State, Slot, slot_at, with_slot, no_slot, empty_slot}
use Rattle.kc_model.specs.Next.{next, unless_refused, state_after}
use Rattle.kc_model.specs.Safety.{IsActive, Measures, Clears, NeverCleared, EachStep, IsMeasured}

-- the element at a place after a write there, and after one elsewhere
pub set-here : {X : Type 0} (xs : List X) (i : ℕ) (x d : X) → (get_or (set xs i x) i d ≡ x) ⊎ (get_or (set xs i x) i d ≡ d)
set-here [] i x d = inr refl
set-here (y ∷ ys) zero x d = inl refl
set-here (y ∷ ys) (suc i) x d = set-here ys i x d

-- a slot that is active after a slot was written: the written one, or one that was active before
written-active : (m : State) (w : ℕ) (slot : Slot) (v : ℕ) → IsActive (with_slot m w slot) v → ((v ≡ w) × (slot.phase ≡ Active)) ⊎ ((v ≡ w → ⊥) × IsActive m v)
written-active m w slot v active = elim (cases_eq v w) [
  | inl same ↦ elim (set-here m.slots w slot no_slot) [
    | inl is ↦ inl (same, sym (ap (λ (s : Slot). s.phase) is) ∙ (let h : IsActive (with_slot m w slot) w = subst (λ k. IsActive (with_slot m w slot) k) same active in h))
    | inr is ↦ let h : IsActive (with_slot m w slot) w = subst (λ k. IsActive (with_slot m w slot) k) same active in let e = ap (λ (s : Slot). s.phase) is in absurd cc
  ]
  | inr other ↦ inr (other, sym (ap (λ (s : Slot). s.phase) (get_or-set_other m.slots w v slot no_slot other)) ∙ active)
]

Becomes : ℕ → State → Call → Reply → Type 0
Becomes v m call answer = ((Clears v call answer → ⊥) × IsActive m v) ⊎ Measures v m call answer

verifies-active : (v : ℕ) (m : State) (w : ℕ) (first : Option ℕ) → unapproved m w ≡ first → IsActive (verified m w first).1 v → Becomes v m (Verify w) (verified m w first).0
unfolding Becomes
verifies-active v m w None e active = elim (written-active (all_trimmed m w (slot_at m w).images) w _ v active) [
  | inl set ↦ inr (sym set.0, rw set.0 (boot-approved m w e))
  | inr other ↦ inl (λ h. h, subst (λ (slots : List Slot). (get_or slots v no_slot).phase ≡ Active) (slots-trimmed m w (slot_at m w).images) other.1)
]
verifies-active v m w (Some i) e active = elim (written-active m w _ v active) [
  | inl set ↦ absurd (let h = set.1 in cc)
  | inr other ↦ inl (λ h. h, other.1)
]

effect-active : (v : ℕ) (m : State) (call : Call) → IsActive (effect m call).1 v → Becomes v m call (effect m call).0
unfolding Becomes
effect-active v m (RegisterVm w) active = elim (written-active m w _ v active) [
  | inl set ↦ absurd (let h = set.1 in cc)
  | inr other ↦ inl (λ h. h, other.1)
]
effect-active v m (Verify w) active = verifies-active v m w _ refl active
effect-active v m (Clear w) active = elim (written-active m w (empty_slot m.config.version) v active) [
  | inl set ↦ absurd (let h = set.1 in cc)
  | inr other ↦ inl (λ h. other.0 (sym h), other.1)
]
effect-active v m call active = inl (λ h. h, sym (phase-effect m call v (λ e. cc)) ∙ active)

refused-clears : (v : ℕ) (call : Call) (r : Refusal) → Clears v call (reply.Refused r) → ⊥
refused-clears v (Clear w) r h = h
refused-clears v _ r h = h

unless-active : (v : ℕ) (refused : Option Refusal) (m : State) (call : Call) → IsActive (unless_refused refused m call).1 v → Becomes v m call (unless_refused refused m call).0
unfolding Becomes
unless-active v None m call active = effect-active v m call active
unless-active v (Some r) m call active = inl (refused-clears v call r, active)

-- a slot is active after a call if it was and was not cleared, or if the call measured it
pub becomes_active : (v : ℕ) (m : State) (call : Call) → IsActive (next m call).1 v → ((Clears v call (next m call).0 → ⊥) × IsActive m v) ⊎ Measures v m call (next m call).0
unfolding Becomes next
becomes_active v m call active = unless-active v (refusal m call) m call active

-- either the slot was active all along, or it was measured
measured-from : (v : ℕ) (m : State) (calls : List Call) → IsActive (state_after m calls) v → (EachStep (NeverCleared v) m calls × IsActive m v) ⊎ IsMeasured v m calls
measured-from v m [] active = inl (tt, active)
measured-from v m (call ∷ calls) active = elim (measured-from v (next m call).1 calls active) [
  | inr measured ↦ inr (inr measured)
  | inl kept ↦ elim (becomes_active v m call kept.1) [
    | inl before ↦ inl ((before.0, kept.0), before.1)
    | inr measures ↦ inr (inl (measures, kept.0))
  ]
]

pub measured-of : (v : ℕ) (m : State) (calls : List Call) → (IsActive m v → ⊥) → IsActive (state_after m calls) v → IsMeasured v m calls
measured-of v m calls inactive active = elim (measured-from v m calls active) [
  | inl kept ↦ absurd (inactive kept.1)
  | inr measured ↦ measured
]
