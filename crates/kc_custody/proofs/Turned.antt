-- What is reported of the slot whose phase a call may change.
use Rattle.std.proofs.Common.{ℕ, ◌≡◌, ◌<◌, ◌≤◌, ◌⊎◌, inl, inr, Bool, true, false, cond, not, List, [], ◌∷◌, map, filter, length, get_or, Option, None, Some, refl, sym, ap, subst, ◌∙◌, arith, get_or-set_other}
use Rattle.std.specs.Option.{option_map, option_to_list}
use Rattle.std.proofs.lemmas.Bool.{cases_Bool, cases_lt}
use Rattle.std.proofs.lemmas.List.{get_or-set_same}
use Rattle.kc_types.specs.Configuration.{slot_count}
use Rattle.kc_types.specs.declared.refusal.Refusal.{Refusal}
use Rattle.kc_types.specs.declared.call.Call.{Call}
use Rattle.kc_types.specs.declared.call.Call.TheVariants.{Take, Give, HostFault, HostRead, HostWrite, RegisterVm, RegisterVcpu, SetBoot, Remap, Verify, Map, GuestRead, GuestWrite, Grant, Revoke, GrantRange, RevokeRange, Drop, Clear}
use Rattle.kc_types.specs.declared.slot.Phase.{Phase}
use Rattle.kc_types.specs.declared.slot.Phase.TheVariants.{Empty}
use Rattle.kc_types.specs.declared.custody.Measurement.{Measurement}
use Rattle.kc_types.specs.declared.custody.PhaseChange.{PhaseChange}
use Rattle.kc_model.specs.State.{State, Slot, slot_at, with_slot, no_slot, empty_slot}
use Rattle.kc_model.specs.Lawful.{IsLawful}
use Rattle.kc_model.specs.Refusals.{refusal, next_gfn, pending}
use Rattle.kc_model.specs.Effects.{effect, host_takes, hand, guest_read, guest_written, verified, all_trimmed, unapproved}
use Rattle.kc_model.specs.Next.{next, unless_refused}
use Rattle.kc_model.specs.Resources.{is_in}
use Rattle.kc_model.specs.Custody.{same_phase, has_turned, phase_change, phase_changes_by, measurement_for, measurement, measurement_unless, measurement_by}
use Rattle.kc_model.proofs.States.Frames.{part-set}
use Rattle.kc_model.proofs.States.Sizes.{sized-next}
use Rattle.kc_model.proofs.States.Slots.{slot-past}
use Rattle.kc_model.proofs.Safe.Measured.{set-here}
use Rattle.kc_model.proofs.Lawful.Verifies.{slots-trimmed, verify-served}
use Rattle.kc_model.proofs.Custody.Same.{not-turned}
use Rattle.kc_custody.specs.Marks.{turning, phase_mark, phase_told, phase_event}
use Rattle.kc_custody.proofs.Ordered.{IsRisingFrom}
use Rattle.kc_custody.proofs.Moved.{not-first}
use Rattle.kc_custody.proofs.Ranges.{filter-range}

abbrev phase_of : State → ℕ → Phase
phase_of m v = (slot_at m v).phase

-- a slot is written that keeps its phase
kept : (m : State) (w : ℕ) (slot : Slot) (v : ℕ) → slot.phase ≡ phase_of m w → phase_of (with_slot m w slot) v ≡ phase_of m v
kept m w slot v same = part-set (λ (s : Slot). s.phase) m.slots w slot no_slot same v

-- another slot is written
other : (m : State) (w : ℕ) (slot : Slot) (v : ℕ) → is_in (w ∷ []) v ≡ false → phase_of (with_slot m w slot) v ≡ phase_of m v
other m w slot v absent = ap (λ (s : Slot). s.phase) (get_or-set_other m.slots w v slot no_slot (not-first w [] v absent))

takes : (m : State) (free : List ℕ) (v : ℕ) → phase_of (host_takes m free).1 v ≡ phase_of m v
takes m [] v = refl
takes m (f ∷ rest) v = refl

reads : (m : State) (w c g off len : ℕ) (at : Option ℕ) (v : ℕ) → phase_of (guest_read m w c g off len at).1 v ≡ phase_of m v
reads m w c g off len None v = kept m w _ v refl
reads m w c g off len (Some f) v = kept m w _ v refl

writes : (m : State) (w c g off : ℕ) (bytes : List ℕ) (at : Option ℕ) (v : ℕ) → phase_of (guest_written m w c g off bytes at).1 v ≡ phase_of m v
writes m w c g off bytes None v = kept m w _ v refl
writes m w c g off bytes (Some f) v = kept m w _ v refl

verifies : (m : State) (w : ℕ) (first : Option ℕ) (v : ℕ) → is_in (w ∷ []) v ≡ false → phase_of (verified m w first).1 v ≡ phase_of m v
verifies m w None v absent =
    other (all_trimmed m w (slot_at m w).images) w _ v absent
    ∙ ap (λ (slots : List Slot). (get_or slots v no_slot).phase) (slots-trimmed m w (slot_at m w).images)
verifies m w (Some i) v absent = other m w _ v absent

stays-effect : (m : State) (call : Call) (v : ℕ) → is_in (option_to_list (turning call)) v ≡ false → phase_of (effect m call).1 v ≡ phase_of m v
stays-effect m Take v absent = takes m m.free v
stays-effect m (Give f) v absent = refl
stays-effect m (HostFault f) v absent = refl
stays-effect m (HostRead f off len) v absent = refl
stays-effect m (HostWrite f off bytes) v absent = refl
stays-effect m (RegisterVm w) v absent = other m w _ v absent
stays-effect m (RegisterVcpu w c) v absent = kept m w _ v refl
stays-effect m (SetBoot w base len) v absent = kept m w _ v refl
stays-effect m (Remap w i f) v absent = kept (hand m w (next_gfn m w i) f) w _ v refl ∙ kept m w _ v refl
stays-effect m (Verify w) v absent = verifies m w (unapproved m w) v absent
stays-effect m (Map w c f) v absent = kept (hand m w (pending m w c) f) w _ v refl ∙ kept m w _ v refl
stays-effect m (GuestRead w c g off len) v absent = reads m w c g off len _ v
stays-effect m (GuestWrite w c g off bytes) v absent = writes m w c g off bytes _ v
stays-effect m (Grant w c g) v absent = refl
stays-effect m (Revoke w c g) v absent = refl
stays-effect m (GrantRange w c g n) v absent = refl
stays-effect m (RevokeRange w c g n) v absent = refl
stays-effect m (Drop w c g) v absent = kept m w _ v refl
stays-effect m (Clear w) v absent = other m w (empty_slot m.config.version) v absent

stays-unless : (refused : Option Refusal) (m : State) (call : Call) (v : ℕ) → is_in (option_to_list (turning call)) v ≡ false → phase_of (unless_refused refused m call).1 v ≡ phase_of m v
stays-unless None m call v absent = stays-effect m call v absent
stays-unless (Some r) m call v absent = refl

-- a call leaves the phase of each slot but the one whose phase it may change
stays : (m : State) (call : Call) (v : ℕ) → is_in (option_to_list (turning call)) v ≡ false → phase_of (next m call).1 v ≡ phase_of m v
unfolding next
stays m call v absent = stays-unless (refusal m call) m call v absent

-- no slot past the last is other than empty
past-still : (m : State) (call : Call) (v : ℕ) → IsLawful m → slot_count m.config ≤ v → has_turned m (next m call).1 v ≡ false
past-still m call v is past =
    let sized = sized-next m call in
    let slots : length (next m call).1.slots ≡ slot_count (next m call).1.config = sized.slots ∙ is.slots ∙ sym (ap slot_count sized.config) in
    let beyond : slot_count (next m call).1.config ≤ v = subst (λ config. slot_count config ≤ v) (sym sized.config) past in
    not-turned m (next m call).1 v (ap (λ (s : Slot). s.phase) (slot-past (next m call).1 v slots beyond ∙ sym (slot-past m v is.slots past)))

-- a slot that a call turns exists, and is the one that it may turn
turned-among : (m : State) (call : Call) (v : ℕ) → IsLawful m → has_turned m (next m call).1 v ≡ true → (v < slot_count m.config) × (is_in (option_to_list (turning call)) v ≡ true)
turned-among m call v is turned = (
  elim (cases_lt v (slot_count m.config)) [ inl low ↦ low | inr past ↦ let still = past-still m call v is past in absurd cc ],
  elim (cases_Bool (is_in (option_to_list (turning call)) v)) [ inl held ↦ held | inr absent ↦ let still = not-turned m (next m call).1 v (stays m call v absent) in absurd cc ],
)

-- the phase of a slot that was written is what was written, and it is empty if there is no such slot
written : (m : State) (w : ℕ) (slot : Slot) → (phase_of (with_slot m w slot) w ≡ slot.phase) ⊎ (phase_of (with_slot m w slot) w ≡ Empty)
written m w slot = elim (set-here m.slots w slot no_slot) [
  | inl is ↦ inl (ap (λ (s : Slot). s.phase) is)
  | inr none ↦ inr (ap (λ (s : Slot). s.phase) none)
]

-- a slot that is measured becomes active or dead
measured : (m : State) (w : ℕ) (first : Option ℕ) → IsLawful m → w < slot_count m.config → (found : Measurement) → found ≡ measurement_for (phase_of (verified m w first).1 w) found
measured m w None is low found =
    let there : w < length (all_trimmed m w (slot_at m w).images).slots = rw (slots-trimmed m w (slot_at m w).images, is.slots) low in
    sym (ap (λ (s : Slot). measurement_for s.phase found) (get_or-set_same (all_trimmed m w (slot_at m w).images).slots w _ no_slot there))
measured m w (Some i) is low found =
    let there : w < length m.slots = rw is.slots low in
    sym (ap (λ (s : Slot). measurement_for s.phase found) (get_or-set_same m.slots w _ no_slot there))

-- if a call turns a slot, the found that it measured are those of its new phase
MeasurementFits : State → State → ℕ → Measurement → Type 0
MeasurementFits m new v found = has_turned m new v ≡ true → found ≡ measurement_for (phase_of new v) (measurement m v)

fit-effect : (m : State) (call : Call) (v : ℕ) (found : Measurement) → IsLawful m → refusal m call ≡ None → found ≡ measurement_by m call → turning call ≡ Some v → found ≡ measurement_for (phase_of (effect m call).1 v) (measurement m v)
fit-effect m (RegisterVm w) v found is served none turns =
    let same : w ≡ v = cc in
    subst (λ k. found ≡ measurement_for (phase_of (effect m (RegisterVm w)).1 k) (measurement m k)) same
    (none ∙ elim (written m w _) [
      | inl booting ↦ sym (ap (λ p. measurement_for p (measurement m w)) booting)
      | inr empty ↦ sym (ap (λ p. measurement_for p (measurement m w)) empty)
    ])
fit-effect m (Verify w) v found is served measures turns =
    let same : w ≡ v = cc in
    subst (λ k. found ≡ measurement_for (phase_of (effect m (Verify w)).1 k) (measurement m k)) same
    (measures ∙ ap (λ refused. measurement_unless refused (measurement m w)) served ∙ measured m w (unapproved m w) is (verify-served m w served).0 (measurement m w))
fit-effect m (Clear w) v found is served none turns =
    let same : w ≡ v = cc in
    subst (λ k. found ≡ measurement_for (phase_of (effect m (Clear w)).1 k) (measurement m k)) same
    (none ∙ elim (written m w (empty_slot m.config.version)) [
      | inl empty ↦ sym (ap (λ p. measurement_for p (measurement m w)) empty)
      | inr empty ↦ sym (ap (λ p. measurement_for p (measurement m w)) empty)
    ])
fit-effect m _ v found is served none turns = cc

fit-unless : (refused : Option Refusal) (m : State) (call : Call) (v : ℕ) (found : Measurement) → IsLawful m → refusal m call ≡ refused → found ≡ measurement_by m call → turning call ≡ Some v → MeasurementFits m (unless_refused refused m call).1 v found
unfolding MeasurementFits
fit-unless None m call v found is served measures turns turned = fit-effect m call v found is served measures turns
fit-unless (Some r) m call v found is refused measures turns turned = let still = not-turned m m v refl in absurd cc

fit : (m : State) (call : Call) (v : ℕ) (found : Measurement) → IsLawful m → found ≡ measurement_by m call → turning call ≡ Some v → MeasurementFits m (next m call).1 v found
unfolding next
fit m call v found is measures turns = fit-unless (refusal m call) m call v found is refl measures turns

-- one slot that turned is reported, and one that did not is not
one-told : (same : Bool) (told : PhaseChange) (change_of : ℕ → PhaseChange) (v : ℕ) → (not same ≡ true → told ≡ change_of v) → cond same [] (phase_event told ∷ []) ≡ map phase_event (map change_of (cond (not same) (v ∷ []) []))
one-told true told change_of v is = refl
one-told false told change_of v is = ap (λ t. phase_event t ∷ []) (is refl)

told-at : (line : ℕ) (m new : State) (found : Measurement) (at : Option ℕ) → ((v : ℕ) → at ≡ Some v → MeasurementFits m new v found)
    → phase_told new found (option_map (phase_mark line m) at) ≡ map phase_event (map (phase_change line m new) (filter (has_turned m new) (option_to_list at)))
unfolding MeasurementFits
told-at line m new found None fits = refl
told-at line m new found (Some v) fits =
    one-told (same_phase (phase_of m v) (phase_of new v)) (record { line = line; vm = v; phase = phase_of new v; measurement = found }) (phase_change line m new) v
    (λ turned. ap (λ is. record { line = line; vm = v; phase = phase_of new v; measurement = is }) (fits v refl turned))

rising-one : (at : Option ℕ) → IsRisingFrom 0 (option_to_list at)
rising-one None = tt
rising-one (Some v) = (omega arith, tt)

-- what is reported of the slot whose phase a call may change is what the call changed of all slots
pub phases-told : (line : ℕ) (m : State) (call : Call) (found : Measurement) → IsLawful m → found ≡ measurement_by m call
    → phase_told (next m call).1 found (option_map (phase_mark line m) (turning call)) ≡ map phase_event (phase_changes_by line m (next m call).1)
phases-told line m call found is measures =
    let new = (next m call).1 in
    told-at line m new found (turning call) (λ v turns. fit m call v found is measures turns)
    ∙ ap (λ vs. map phase_event (map (phase_change line m new) vs)) (sym (filter-range (has_turned m new) 0 (slot_count m.config) (option_to_list (turning call)) (rising-one (turning call)) (λ v low turned.
    let at = turned-among m call v is turned in
    let lt = at.0 in
    (omega (arith, lt), at.1))))
