-- Every trace from a lawful state brings pages only where they are awaited.
use Rattle.std.proofs.Common.{ℕ, ◌≡◌, ◌<◌, inl, inr, length, List, refl, sym, ap, subst, ◌∙◌, Option, None, Some, get_or-set_same, get_or-set_other}
use Rattle.std.proofs.lemmas.Bool.{cases_eq}
use Rattle.std.specs.FinMap as map
use Rattle.std.specs.Ordering.{nat_cmp}
use Rattle.kc_types.specs.declared.call.Call.{Call}
use Rattle.kc_types.specs.declared.call.Call.TheVariants.{Take, Give, HostFault, HostRead, HostWrite, RegisterVm, RegisterVcpu, SetBoot, Remap, Verify, Map, GuestRead, GuestWrite, Grant, Revoke, GrantRange, RevokeRange, Drop, Clear}
use Rattle.kc_types.specs.declared.refusal.Refusal.{Refusal}
use Rattle.kc_types.specs.declared.slot.Phase.TheVariants.{Booting}
use Rattle.kc_model.specs.State.{State, Slot, slot_at, vcpu_at, mapped_at, no_slot, empty_slot}
use Rattle.kc_model.specs.Refusals.{refusal, conditions, next_gfn, pending}
use Rattle.kc_model.specs.Effects.{effect, hand, unapproved}
use Rattle.kc_model.specs.Next.{next, unless_refused}
use Rattle.kc_model.specs.Lawful.{IsLawful}
use Rattle.kc_model.specs.Arriving.{ArrivesAwaited, IsArrived}
use Rattle.kc_model.proofs.States.Changes.{slot-elsewhere}
use Rattle.kc_model.proofs.States.Tables.{got-here, got-elsewhere, gone-here, gone-elsewhere}
use Rattle.kc_model.proofs.Refusals.Served.{none-of}
use Rattle.kc_model.proofs.Refusals.Answered.{vm-in}
use Rattle.kc_model.proofs.Lawful.GuestCalls.{guest_frame-served}
use Rattle.kc_model.proofs.Lawful.HandCalls.{remap-served, map-served}
use Rattle.kc_model.proofs.Safe.Available.{same-entry, takes, reads, writes, verifies}
use Rattle.kc_model.proofs.Safe.Safe.{every_step}

never : (old new : Option ℕ) (f : ℕ) → new ≡ old → old ≡ None → new ≡ Some f → ⊥
never old new f same none some = cc

-- a page appears where it is handed over
appears : (m : State) (w h k v g f : ℕ) → w < length m.slots → mapped_at m v g ≡ None → mapped_at (hand m w h k) v g ≡ Some f → (w ≡ v) × (k ≡ f) × (g ≡ h)
appears m w h k v g f lt free mapped = elim (cases_eq v w) [
  | inr other ↦ absurd (never (mapped_at m v g) (mapped_at (hand m w h k) v g) f (ap (λ (s : Slot). map.get s.mapped g) (slot-elsewhere m w _ v other)) free mapped)
  | inl same ↦
      let here : mapped_at (hand m w h k) w g ≡ map.get (map.insert (slot_at m w).mapped h k) g = ap (λ (s : Slot). map.get s.mapped g) (get_or-set_same m.slots w _ no_slot lt) in
      let got : mapped_at (hand m w h k) w g ≡ Some f = subst (λ x. mapped_at (hand m w h k) x g ≡ Some f) same mapped in
      let none : mapped_at m w g ≡ None = subst (λ x. mapped_at m x g ≡ None) same free in
      elim (cases_eq g h) [
        | inr other ↦ absurd (never (mapped_at m w g) (mapped_at (hand m w h k) w g) f (here ∙ got-elsewhere (slot_at m w).mapped h k g other) none got)
        | inl also ↦
            let at : mapped_at (hand m w h k) w g ≡ Some k = here ∙ subst (λ x. map.get (map.insert (slot_at m w).mapped h k) x ≡ Some k) (sym also) (got-here (slot_at m w).mapped h k) in
            (sym same, cc, also)
      ]
]

-- what is dropped or cleared is gone
drops : (m : State) (w c h v g : ℕ) → w < length m.slots → mapped_at m v g ≡ None → mapped_at (effect m (Drop w c h)).1 v g ≡ None
drops m w c h v g lt free = elim (cases_eq v w) [
  | inr other ↦ ap (λ (s : Slot). map.get s.mapped g) (slot-elsewhere m w _ v other) ∙ free
  | inl same ↦ subst (λ x. mapped_at (effect m (Drop w c h)).1 x g ≡ None) (sym same) (
      ap (λ (s : Slot). map.get s.mapped g) (get_or-set_same m.slots w _ no_slot lt)
      ∙ elim (cases_eq g h) [
        | inl also ↦ subst (λ x. map.get (map.remove (slot_at m w).mapped h) x ≡ None) (sym also) (gone-here (slot_at m w).mapped h)
        | inr other ↦ gone-elsewhere (slot_at m w).mapped h g other ∙ subst (λ x. mapped_at m x g ≡ None) same free
      ])
]

clears : (m : State) (w v g : ℕ) → w < length m.slots → mapped_at m v g ≡ None → mapped_at (effect m (Clear w)).1 v g ≡ None
clears m w v g lt free = elim (cases_eq v w) [
  | inr other ↦ ap (λ (s : Slot). map.get s.mapped g) (get_or-set_other m.slots w v (empty_slot m.config.version) no_slot other) ∙ free
  | inl same ↦ subst (λ x. mapped_at (effect m (Clear w)).1 x g ≡ None) (sym same) (ap (λ (s : Slot). map.get s.mapped g) (get_or-set_same m.slots w (empty_slot m.config.version) no_slot lt) ∙ map.get-empty nat_cmp g)
]

absent : {X : Type 0} (new : Option ℕ) (f : ℕ) → new ≡ None → new ≡ Some f → X
absent new f none some = absurd cc

arrives-effect : (m : State) (call : Call) → IsLawful m → refusal m call ≡ None → ArrivesAwaited m call (effect m call).0 (effect m call).1
arrives-effect m Take is served v g f free mapped = absent _ f (takes m m.free v g ∙ free) mapped
arrives-effect m (Give k) is served v g f free mapped = absent _ f free mapped
arrives-effect m (HostFault k) is served v g f free mapped = absent _ f free mapped
arrives-effect m (HostRead k off len) is served v g f free mapped = absent _ f free mapped
arrives-effect m (HostWrite k off bytes) is served v g f free mapped = absent _ f free mapped
arrives-effect m (RegisterVm w) is served v g f free mapped = absent _ f (same-entry m w _ v g refl ∙ free) mapped
arrives-effect m (RegisterVcpu w c) is served v g f free mapped = absent _ f (same-entry m w _ v g refl ∙ free) mapped
arrives-effect m (SetBoot w base len) is served v g f free mapped = absent _ f (same-entry m w _ v g refl ∙ free) mapped
arrives-effect m (Remap w i k) is served v g f free mapped =
    let seen = remap-served m w i k served in
    let come = appears m w (next_gfn m w i) k v g f (rw is.slots seen.vm) free (sym (same-entry (hand m w (next_gfn m w i) k) w _ v g refl) ∙ mapped) in
    (come.0, come.1, subst (λ x. (slot_at m x).phase ≡ Booting) come.0 seen.booting, come.2 ∙ ap (λ x. next_gfn m x i) come.0)
arrives-effect m (Verify w) is served v g f free mapped = absent _ f (verifies m w (unapproved m w) v g ∙ free) mapped
arrives-effect m (Map w c k) is served v g f free mapped =
    let seen = map-served m w c k served in
    let come = appears m w (pending m w c) k v g f (rw is.slots seen.vm) free (sym (same-entry (hand m w (pending m w c) k) w _ v g refl) ∙ mapped) in
    (come.0, come.1, subst (λ x. (vcpu_at m x c).fault ≡ Some g) come.0 (seen.waits ∙ ap Some (sym come.2)))
arrives-effect m (GuestRead w c h off len) is served v g f free mapped = absent _ f (reads m w c h off len (mapped_at m w h) v g ∙ free) mapped
arrives-effect m (GuestWrite w c h off bytes) is served v g f free mapped = absent _ f (writes m w c h off bytes (mapped_at m w h) v g ∙ free) mapped
arrives-effect m (Grant w c h) is served v g f free mapped = absent _ f free mapped
arrives-effect m (Revoke w c h) is served v g f free mapped = absent _ f free mapped
arrives-effect m (GrantRange w c h n) is served v g f free mapped = absent _ f free mapped
arrives-effect m (RevokeRange w c h n) is served v g f free mapped = absent _ f free mapped
arrives-effect m (Drop w c h) is served v g f free mapped = absent _ f (drops m w c h v g (rw is.slots (guest_frame-served m w c h _ served).0.call.vm) free) mapped
arrives-effect m (Clear w) is served v g f free mapped = absent _ f (clears m w v g (rw is.slots (vm-in m w (none-of (conditions m (Clear w)) served 0))) free) mapped

arrives-unless : (refused : Option Refusal) (m : State) (call : Call) → IsLawful m → refusal m call ≡ refused → ArrivesAwaited m call (unless_refused refused m call).0 (unless_refused refused m call).1
arrives-unless None m call is served = arrives-effect m call is served
arrives-unless (Some r) m call is served = λ v g f free mapped. absent _ f free mapped

arrives : (m : State) (call : Call) → IsLawful m → ArrivesAwaited m call (next m call).0 (next m call).1
unfolding next
arrives m call is = arrives-unless (refusal m call) m call is refl

pub arrived : (m : State) (calls : List Call) → IsLawful m → IsArrived m calls
arrived m calls is = every_step ArrivesAwaited arrives m calls is
