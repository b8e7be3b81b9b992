-- Every trace from a lawful state serves its VMs, and takes no page from them.
use Rattle.std.proofs.Common.{ℕ, ◌≡◌, ◌<◌, ◌+◌, inl, inr, true, false, nat_eq, nat_le, nat_lt, ◌||◌, get_or, List, [], ◌∷◌, length, refl, sym, ap, subst, ◌∙◌, Option, None, Some, arith, get_or-set_other, eq-eqb}
use Rattle.std.proofs.lemmas.Grind.{common_steps}
use Rattle.std.proofs.lemmas.Bool.{cases_eq, cases_lt, and_cases}
use Rattle.std.specs.FinMap as map
use Rattle.kc_types.specs.Configuration.{slot_count, vcpus_of, gfns_of}
use Rattle.kc_types.specs.declared.call.Call.{Call}
use Rattle.kc_types.specs.declared.call.Call.TheVariants.{Take, RegisterVm, RegisterVcpu, SetBoot, Remap, Verify, Map, GuestRead, GuestWrite, Drop, Clear}
use Rattle.kc_types.specs.declared.reply.Reply.TheVariants as reply
use Rattle.kc_types.specs.declared.refusal.Refusal.{Refusal}
use Rattle.kc_types.specs.declared.slot.Phase.{Phase}
use Rattle.kc_types.specs.declared.slot.Phase.TheVariants.{Empty, Booting, Active, Dead}
use Rattle.kc_model.specs.State.{State, Slot, slot_at, vcpu_at, mapped_at, with_slot, no_slot, empty_slot}
use Rattle.kc_model.specs.Refusals.{refusal, first_of_these, guest_access, next_gfn, pending, is_active, is_empty}
use Rattle.kc_model.specs.Effects.{effect, host_takes, hand, guest_read, guest_written, verified, all_trimmed, unapproved}
use Rattle.kc_model.specs.Next.{next, unless_refused}
use Rattle.kc_model.specs.Lawful.{IsLawful}
use Rattle.kc_model.specs.Availability.{MayAccess, ServesAlways, KeepsPages, takes_page, IsAvailable}
use Rattle.kc_model.proofs.States.Frames.{part-set}
use Rattle.kc_model.proofs.States.Changes.{slot-elsewhere, exists}
use Rattle.kc_model.proofs.States.Slots.{slot-past, next-held, registered-within}
use Rattle.kc_model.proofs.States.Tables.{got-elsewhere, gone-elsewhere}
use Rattle.kc_model.proofs.Refusals.Answered.{is_none-of}
use Rattle.kc_model.proofs.Lawful.HandCalls.{remap-served, map-served}
use Rattle.kc_model.proofs.Lawful.Verifies.{slots-trimmed}
use Rattle.kc_model.proofs.Safe.Safe.{every_step}

below : (n k : ℕ) → n < k → nat_le k n ≡ false
below n k lt = grind (arith, common_steps, lt)

pub slot-exists : (m : State) (v : ℕ) → IsLawful m → ((slot_at m v).phase ≡ Empty → ⊥) → v < slot_count m.config
slot-exists m v is there = elim (cases_lt v (slot_count m.config)) [
  | inl lt ↦ lt
  | inr past ↦ absurd (there (ap (λ (s : Slot). s.phase) (slot-past m v is.slots past)))
]

-- what such an access needs
access-served : (m : State) (v c g off len f : ℕ) → IsLawful m → MayAccess m v c g off len f → first_of_these (guest_access m v c g off len) ≡ None
access-served m v c g off len f is may =
    let here = may.active in
    let v_in = slot-exists m v is (λ empty. cc) in
    let slot = is.each_slot v v_in in
    let c_in : c < vcpus_of m.config.version = rw (← slot.vcpus) (registered-within (slot_at m v).vcpus c may.registered) in
    let owner = (is.mapped v g f v_in).0 may.mapped in
    let lt : f < length m.frames = exists m f (λ core. let o = owner.0 in cc) in
    let g_in : g < gfns_of m.config.version = (is.each_frame f lt).gfn g owner.1 in
    let some = may.some in
    let within = may.within in
    let b0 = below v (slot_count m.config) v_in in
    let b1 = below c (vcpus_of m.config.version) c_in in
    let b2 = below g (gfns_of m.config.version) g_in in
    let b3 : (nat_eq len 0 || nat_lt 4096 (off + len)) ≡ false = grind (arith, common_steps, some, within) in
    let b4 : is_empty (slot_at m v).phase ≡ false = ap is_empty here in
    let b5 : is_active (slot_at m v).phase ≡ true = ap is_active here in
    let b6 : (vcpu_at m v c).registered ≡ true = may.registered in
    rw (b0, b1, b2, b3, b4, b5, b6) refl

read-served : (m : State) (v c g off len f : ℕ) → IsLawful m → MayAccess m v c g off len f → (next m (GuestRead v c g off len)).0 ≡ (effect m (GuestRead v c g off len)).0
unfolding next
read-served m v c g off len f is may = ap (λ (r : Option Refusal). (unless_refused r m (GuestRead v c g off len)).0) (access-served m v c g off len f is may)

write-served : (m : State) (v c g off : ℕ) (bytes : List ℕ) (f : ℕ) → IsLawful m → MayAccess m v c g off (length bytes) f → (next m (GuestWrite v c g off bytes)).0 ≡ (effect m (GuestWrite v c g off bytes)).0
unfolding next
write-served m v c g off bytes f is may = ap (λ (r : Option Refusal). (unless_refused r m (GuestWrite v c g off bytes)).0) (access-served m v c g off (length bytes) f is may)

not-empty : (phase : Phase) → (phase ≡ Empty → ⊥) → is_empty phase ≡ false
not-empty Empty there = absurd (there refl)
not-empty Booting there = refl
not-empty Active there = refl
not-empty Dead there = refl

clear-served : (m : State) (v : ℕ) → v < slot_count m.config → ((slot_at m v).phase ≡ Empty → ⊥) → refusal m (Clear v) ≡ None
clear-served m v v_in there = let b0 = below v (slot_count m.config) v_in in let b1 = not-empty (slot_at m v).phase there in rw (b0, b1) refl

clear-done : (m : State) (v : ℕ) → refusal m (Clear v) ≡ None → (next m (Clear v)).0 ≡ reply.Done
unfolding next
clear-done m v served = ap (λ (r : Option Refusal). (unless_refused r m (Clear v)).0) served

serves : (m : State) (call : Call) → IsLawful m → ServesAlways m call (next m call).0 (next m call).1
serves m (GuestRead v c g off len) is = λ f may. read-served m v c g off len f is may ∙ ap (λ (at : Option ℕ). (guest_read m v c g off len at).0) may.mapped
serves m (GuestWrite v c g off bytes) is = λ f may. write-served m v c g off bytes f is may ∙ ap (λ (at : Option ℕ). (guest_written m v c g off bytes at).0) may.mapped
serves m (Clear v) is = λ v_in there. clear-done m v (clear-served m v v_in there)
serves m _ is = tt

-- a slot is written, and the guest frame is mapped in it as before
pub same-entry : (m : State) (w : ℕ) (slot : Slot) (v g : ℕ) → map.get slot.mapped g ≡ mapped_at m w g → mapped_at (with_slot m w slot) v g ≡ mapped_at m v g
same-entry m w slot v g same = part-set (λ (s : Slot). map.get s.mapped g) m.slots w slot no_slot same v

-- a page is mapped at a guest frame that had none
hands : (m : State) (w h k v g f : ℕ) → mapped_at m w h ≡ None → mapped_at m v g ≡ Some f → mapped_at (hand m w h k) v g ≡ Some f
hands m w h k v g f free mapped = elim (cases_eq g h) [
  | inl same ↦ slot-at-other m w h k v g f (λ one. let here : mapped_at m v g ≡ None = subst (λ x. mapped_at m x g ≡ None) (sym one) (subst (λ x. mapped_at m w x ≡ None) (sym same) free) in cc) mapped
  | inr other ↦ same-entry m w _ v g (got-elsewhere (slot_at m w).mapped h k g other) ∙ mapped
]
  where
    slot-at-other : (m : State) (w h k v g f : ℕ) → (v ≡ w → ⊥) → mapped_at m v g ≡ Some f → mapped_at (hand m w h k) v g ≡ Some f
    slot-at-other m w h k v g f ne mapped = ap (λ (s : Slot). map.get s.mapped g) (slot-elsewhere m w _ v ne) ∙ mapped

pub takes : (m : State) (free : List ℕ) (v g : ℕ) → mapped_at (host_takes m free).1 v g ≡ mapped_at m v g
takes m [] v g = refl
takes m (k ∷ rest) v g = refl

pub reads : (m : State) (w c h off len : ℕ) (at : Option ℕ) (v g : ℕ) → mapped_at (guest_read m w c h off len at).1 v g ≡ mapped_at m v g
reads m w c h off len None v g = same-entry m w _ v g refl
reads m w c h off len (Some k) v g = same-entry m w _ v g refl

pub writes : (m : State) (w c h off : ℕ) (bytes : List ℕ) (at : Option ℕ) (v g : ℕ) → mapped_at (guest_written m w c h off bytes at).1 v g ≡ mapped_at m v g
writes m w c h off bytes None v g = same-entry m w _ v g refl
writes m w c h off bytes (Some k) v g = same-entry m w _ v g refl

pub verifies : (m : State) (w : ℕ) (first : Option ℕ) (v g : ℕ) → mapped_at (verified m w first).1 v g ≡ mapped_at m v g
verifies m w None v g =
    same-entry (all_trimmed m w (slot_at m w).images) w _ v g refl
    ∙ ap (λ (slots : List Slot). map.get (get_or slots v no_slot).mapped g) (slots-trimmed m w (slot_at m w).images)
verifies m w (Some i) v g = same-entry m w _ v g refl

other_vm : (v w : ℕ) → nat_eq w v ≡ false → v ≡ w → ⊥
other_vm v w differ same = let one : nat_eq w v ≡ true = eq-eqb w v (sym same) in cc

drops : (m : State) (w c h v g f : ℕ) → mapped_at m v g ≡ Some f → takes_page v g (Drop w c h) ≡ false → mapped_at (effect m (Drop w c h)).1 v g ≡ Some f
drops m w c h v g f mapped kept = elim (cases_eq g h) [
  | inl same ↦
      let hit : nat_eq h g ≡ true = eq-eqb h g (sym same) in
      let apart : nat_eq w v ≡ false = elim (and_cases (nat_eq w v) (nat_eq h g) kept) [
        | inl apart ↦ apart
        | inr miss ↦ cc
      ] in
      ap (λ (s : Slot). map.get s.mapped g) (slot-elsewhere m w _ v (other_vm v w apart)) ∙ mapped
  | inr other ↦ same-entry m w _ v g (gone-elsewhere (slot_at m w).mapped h g other) ∙ mapped
]

keeps-effect : (m : State) (call : Call) (v g f : ℕ) → IsLawful m → refusal m call ≡ None → mapped_at m v g ≡ Some f → takes_page v g call ≡ false → mapped_at (effect m call).1 v g ≡ Some f
keeps-effect m Take v g f is served mapped kept = takes m m.free v g ∙ mapped
keeps-effect m (RegisterVm w) v g f is served mapped kept = same-entry m w _ v g refl ∙ mapped
keeps-effect m (RegisterVcpu w c) v g f is served mapped kept = same-entry m w _ v g refl ∙ mapped
keeps-effect m (SetBoot w base len) v g f is served mapped kept = same-entry m w _ v g refl ∙ mapped
keeps-effect m (Remap w i k) v g f is served mapped kept =
    let seen = remap-served m w i k served in
    let there = is.each_slot w seen.vm in
    let unheld = next-held m.config.version (slot_at m w).images i (record { base = 0; len = 0; pages = 0 }) (next_gfn m w i) there.apart there.each_image seen.image refl seen.short in
    let free : mapped_at m w (next_gfn m w i) ≡ None = is_none-of (mapped_at m w (next_gfn m w i)) (there.booting seen.booting (next_gfn m w i) ∙ unheld) in
    same-entry (hand m w (next_gfn m w i) k) w _ v g refl ∙ hands m w (next_gfn m w i) k v g f free mapped
keeps-effect m (Verify w) v g f is served mapped kept = verifies m w (unapproved m w) v g ∙ mapped
keeps-effect m (Map w c k) v g f is served mapped kept = same-entry (hand m w (pending m w c) k) w _ v g refl ∙ hands m w (pending m w c) k v g f (map-served m w c k served).unmapped mapped
keeps-effect m (GuestRead w c h off len) v g f is served mapped kept = reads m w c h off len (mapped_at m w h) v g ∙ mapped
keeps-effect m (GuestWrite w c h off bytes) v g f is served mapped kept = writes m w c h off bytes (mapped_at m w h) v g ∙ mapped
keeps-effect m (Drop w c h) v g f is served mapped kept = drops m w c h v g f mapped kept
keeps-effect m (Clear w) v g f is served mapped kept = ap (λ (s : Slot). map.get s.mapped g) (get_or-set_other m.slots w v (empty_slot m.config.version) no_slot (other_vm v w kept)) ∙ mapped
keeps-effect m _ v g f is served mapped kept = mapped

keeps-unless : (refused : Option Refusal) (m : State) (call : Call) → IsLawful m → refusal m call ≡ refused → KeepsPages m call (unless_refused refused m call).0 (unless_refused refused m call).1
keeps-unless None m call is served = λ v g f mapped kept. keeps-effect m call v g f is served mapped kept
keeps-unless (Some r) m call is served = λ v g f mapped kept. mapped

pub keeps : (m : State) (call : Call) → IsLawful m → KeepsPages m call (next m call).0 (next m call).1
unfolding next
keeps m call is = keeps-unless (refusal m call) m call is refl

pub available : (m : State) (calls : List Call) → IsLawful m → IsAvailable m calls
available m calls is = record { serves = every_step ServesAlways serves m calls is; pages = every_step KeepsPages keeps m calls is }
