-- An active slot stays active until it is empty.
use Rattle.std.proofs.Common.{ℕ, zero, suc, ◌≡◌, ◌<◌, ◌≤◌, ◌+◌, ◌-◌, ◌⊎◌, inl, inr, true, List, Option, None, Some, refl, sym, ap, subst, ◌∙◌, arith}
use Rattle.std.proofs.lemmas.Bool.{cases_eq, cases_lt}
use Rattle.kc_types.specs.Configuration.{slot_count}
use Rattle.kc_types.specs.declared.refusal.Refusal.{Refusal}
use Rattle.kc_types.specs.declared.slot.Phase.TheVariants.{Empty, Booting, Active}
use Rattle.kc_types.specs.declared.call.Call.{Call}
use Rattle.kc_types.specs.declared.call.Call.TheVariants.{RegisterVm, Verify, Clear}
use Rattle.kc_model.specs.State.{State, Slot, slot_at, no_slot, empty_slot}
use Rattle.kc_model.specs.Refusals.{refusal, conditions}
use Rattle.kc_model.specs.Effects.{effect, cleared}
use Rattle.kc_model.specs.Next.{next, unless_refused}
use Rattle.kc_model.specs.Lawful.{IsLawful}
use Rattle.kc_model.specs.Safety.{IsActive}
use Rattle.kc_model.specs.Footprints.{state_at, call_at}
use Rattle.kc_model.specs.CustodyLaws.{StaysActive}
use Rattle.kc_model.proofs.Refusals.Served.{none-of}
use Rattle.kc_model.proofs.Refusals.Answered.{was-empty}
use Rattle.kc_model.proofs.States.Phases.{phase-effect}
use Rattle.kc_model.proofs.States.Slots.{slot-past}
use Rattle.kc_model.proofs.Lawful.Verifies.{verify-served}
use Rattle.kc_model.proofs.Lawful.LawfulTraces.{lawful-at}
use Rattle.kc_model.proofs.Footprints.Reaches.{config-at}
use Rattle.kc_model.proofs.Safe.Measured.{set-here}
use Rattle.kc_model.proofs.Custody.Told.{has_ended}
use Rattle.kc_model.proofs.Custody.Traced.{exact_ends}

abbrev pub IsEmpty : State → ℕ → Type 0
IsEmpty m v = (slot_at m v).phase ≡ Empty

-- an active slot is in no other phase
not-booting : (m : State) (v w : ℕ) → IsActive m v → (slot_at m w).phase ≡ Booting → v ≡ w → ⊥
not-booting m v w active booting same = let h : (slot_at m w).phase ≡ Active = subst (λ k. IsActive m k) same active in cc

not-empty : (m : State) (v w : ℕ) → IsActive m v → IsEmpty m w → v ≡ w → ⊥
not-empty m v w active empty same = let h : (slot_at m w).phase ≡ Active = subst (λ k. IsActive m k) same active in cc

-- a served `verify` is of a slot that is not active
pub not-verified : (m : State) (v w : ℕ) → IsActive m v → refusal m (Verify w) ≡ None → v ≡ w → ⊥
not-verified m v w active served = not-booting m v w active (verify-served m w served).1

-- a slot that is cleared is empty
clears : (m : State) (w : ℕ) → IsEmpty (cleared m w) w
clears m w = elim (set-here m.slots w (empty_slot m.config.version) no_slot) [
  | inl is ↦ ap (λ (s : Slot). s.phase) is
  | inr is ↦ ap (λ (s : Slot). s.phase) is
]

same-slot : (w v : ℕ) → Some w ≡ Some v → v ≡ w
same-slot w v e = cc

stays-effect : (v : ℕ) (m : State) (call : Call) → refusal m call ≡ None → IsActive m v → IsActive (effect m call).1 v ⊎ IsEmpty (effect m call).1 v
stays-effect v m (RegisterVm w) served active = inl (phase-effect m (RegisterVm w) v (λ e. not-empty m v w active (was-empty m w _ (none-of (conditions m (RegisterVm w)) served 1)) (same-slot w v e)) ∙ active)
stays-effect v m (Verify w) served active = inl (phase-effect m (Verify w) v (λ e. not-verified m v w active served (same-slot w v e)) ∙ active)
stays-effect v m (Clear w) served active = elim (cases_eq v w) [
  | inl same ↦ inr (subst (λ k. IsEmpty (cleared m w) k) (sym same) (clears m w))
  | inr other ↦ inl (phase-effect m (Clear w) v (λ e. other (same-slot w v e)) ∙ active)
]
stays-effect v m call served active = inl (phase-effect m call v (λ e. cc) ∙ active)

stays-unless : (refused : Option Refusal) (v : ℕ) (m : State) (call : Call) → refusal m call ≡ refused → IsActive m v → IsActive (unless_refused refused m call).1 v ⊎ IsEmpty (unless_refused refused m call).1 v
stays-unless None v m call served active = stays-effect v m call served active
stays-unless (Some r) v m call served active = inl active

-- after a call an active slot is active or empty
active-or-empty : (v : ℕ) (m : State) (call : Call) → IsActive m v → IsActive (next m call).1 v ⊎ IsEmpty (next m call).1 v
unfolding next
active-or-empty v m call active = stays-unless (refusal m call) v m call refl active

module _ (m : State) (calls : List Call) (i j v : ℕ) (never : (k : ℕ) → i ≤ k → k < j → IsActive (state_at m calls k) v → IsEmpty (state_at m calls (suc k)) v → ⊥) where
  active-after : IsActive (state_at m calls i) v → (n : ℕ) → i + n ≤ j → IsActive (state_at m calls (i + n)) v
  active-after start zero le = let here : i + 0 ≡ i = omega arith in rw here start
  active-after start (suc n) le =
      let there : i + suc n ≡ suc (i + n) = omega arith in
      let so_far = active-after start n (omega (arith, le)) in
      rw there (elim (active-or-empty v (state_at m calls (i + n)) (call_at calls (i + n)) so_far) [
        | inl active ↦ active
        | inr empty ↦ absurd (never (i + n) (omega arith) (omega (arith, le)) so_far empty)
      ])

  -- a slot that no call of the stretch empties stays active
  pub active-while : IsActive (state_at m calls i) v → (k : ℕ) → i ≤ k → k ≤ j → IsActive (state_at m calls k) v
  active-while start k from to =
      let there : i + (k - i) ≡ k = omega (arith, from) in
      subst (λ n. IsActive (state_at m calls n) v) there (active-after start (k - i) (omega (arith, from, to)))

-- an active slot exists
active-exists : (m : State) (v : ℕ) → IsLawful m → IsActive m v → v < slot_count m.config
active-exists m v is active = elim (cases_lt v (slot_count m.config)) [
  | inl low ↦ low
  | inr past ↦ let none = ap (λ (s : Slot). s.phase) (slot-past m v is.slots past) in absurd cc
]

pub stays_active : (m : State) (calls : List Call) → IsLawful m → StaysActive m calls
stays_active m calls is i j v stretch none start =
    let ends = stretch.ends in
    let begins = stretch.begins in
    active-while m calls i j v (λ k from below active empty.
    let law = lawful-at m calls is k (omega (arith, below, ends)) in
    let low : v < slot_count m.config = subst (λ config. v < slot_count config) (config-at m calls k) (active-exists (state_at m calls k) v law active) in
    let more : k + 1 ≡ suc k = omega arith in
    let ended : has_ended (state_at m calls k) (state_at m calls (k + 1)) v ≡ true = rw (more, active, empty) refl in
    let told = exact_ends m calls k v (omega (arith, below, ends)) low ∙ ended in
    let untold = none k from below in
    cc) start j begins (omega arith)
