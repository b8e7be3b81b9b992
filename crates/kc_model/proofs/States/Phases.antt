-- Only three calls change the phase of a slot: each other call keeps it, and they keep that of other slots.
use Rattle.std.proofs.Common.{ℕ, ◌≡◌, List, [], ◌∷◌, get_or, Option, None, Some, refl, sym, ap, ◌∙◌, get_or-set_other}
use Rattle.kc_types.specs.declared.call.Call.{Call}
use Rattle.kc_types.specs.declared.call.Call.TheVariants.{Take, RegisterVm, RegisterVcpu, SetBoot, Remap, Verify, Map, GuestRead, GuestWrite, Drop, Clear}
use Rattle.kc_model.specs.State.{State, Slot, slot_at, mapped_at, with_slot, no_slot, empty_slot}
use Rattle.kc_model.specs.Refusals.{backing, next_gfn, pending}
use Rattle.kc_model.specs.Effects.{effect, host_takes, hand, freed, guest_read, guest_written, verified, all_trimmed, unapproved}
use Rattle.kc_model.proofs.States.Frames.{part-set}
use Rattle.kc_model.proofs.Lawful.Verifies.{slots-trimmed}

-- the slot whose phase a call may change
abbrev pub turned_by : Call → Option ℕ
turned_by (RegisterVm v) = Some v
turned_by (Verify v) = Some v
turned_by (Clear v) = Some v
turned_by _ = None

-- a write to a slot that keeps its phase, and a slot other than the one written
pub phase-kept : (m : State) (w : ℕ) (slot : Slot) (v : ℕ) → slot.phase ≡ (slot_at m w).phase → (slot_at (with_slot m w slot) v).phase ≡ (slot_at m v).phase
phase-kept m w slot v same = part-set (λ (s : Slot). s.phase) m.slots w slot no_slot same v

pub phase-elsewhere : (m : State) (w : ℕ) (slot : Slot) (v : ℕ) → (v ≡ w → ⊥) → (slot_at (with_slot m w slot) v).phase ≡ (slot_at m v).phase
phase-elsewhere m w slot v other = ap (λ (s : Slot). s.phase) (get_or-set_other m.slots w v slot no_slot other)

takes : (m : State) (free : List ℕ) (v : ℕ) → (slot_at (host_takes m free).1 v).phase ≡ (slot_at m v).phase
takes m [] v = refl
takes m (f ∷ rest) v = refl

reads : (m : State) (w c g off len : ℕ) (at : Option ℕ) (v : ℕ) → (slot_at (guest_read m w c g off len at).1 v).phase ≡ (slot_at m v).phase
reads m w c g off len None v = phase-kept m w _ v refl
reads m w c g off len (Some f) v = phase-kept m w _ v refl

writes : (m : State) (w c g off : ℕ) (bytes : List ℕ) (at : Option ℕ) (v : ℕ) → (slot_at (guest_written m w c g off bytes at).1 v).phase ≡ (slot_at m v).phase
writes m w c g off bytes None v = phase-kept m w _ v refl
writes m w c g off bytes (Some f) v = phase-kept m w _ v refl

verifies : (m : State) (w : ℕ) (first : Option ℕ) (v : ℕ) → (v ≡ w → ⊥) → (slot_at (verified m w first).1 v).phase ≡ (slot_at m v).phase
verifies m w None v other =
    phase-elsewhere (all_trimmed m w (slot_at m w).images) w _ v other
    ∙ ap (λ (slots : List Slot). (get_or slots v no_slot).phase) (slots-trimmed m w (slot_at m w).images)
verifies m w (Some i) v other = phase-elsewhere m w _ v other

pub phase-effect : (m : State) (call : Call) (v : ℕ) → (turned_by call ≡ Some v → ⊥) → (slot_at (effect m call).1 v).phase ≡ (slot_at m v).phase
phase-effect m Take v other = takes m m.free v
phase-effect m (RegisterVm w) v other = phase-elsewhere m w _ v (λ e. other (ap Some (sym e)))
phase-effect m (RegisterVcpu w c) v other = phase-kept m w _ v refl
phase-effect m (SetBoot w base len) v other = phase-kept m w _ v refl
phase-effect m (Remap w i f) v other = phase-kept (hand m w (next_gfn m w i) f) w _ v refl ∙ phase-kept m w _ v refl
phase-effect m (Verify w) v other = verifies m w (unapproved m w) v (λ e. other (ap Some (sym e)))
phase-effect m (Map w c f) v other = phase-kept (hand m w (pending m w c) f) w _ v refl ∙ phase-kept m w _ v refl
phase-effect m (GuestRead w c g off len) v other = reads m w c g off len (mapped_at m w g) v
phase-effect m (GuestWrite w c g off bytes) v other = writes m w c g off bytes (mapped_at m w g) v
phase-effect m (Drop w c g) v other = phase-kept (freed m (backing (mapped_at m w g))) w _ v refl
phase-effect m (Clear w) v other = phase-elsewhere m w (empty_slot m.config.version) v (λ e. other (ap Some (sym e)))
phase-effect m _ v other = refl
