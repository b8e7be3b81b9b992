-- Which frames the lists may hold after a call: those from before, and those that the call's names bring.
use Rattle.std.proofs.Common.{ℕ, zero, suc, ◌≡◌, ◌⊎◌, inl, inr, Bool, true, false, not, ◌&&◌, ◌||◌, Option, Some, None, nat_lt, nat_eq, eqb-true, List, [], ◌∷◌, ◌++◌, get_or, set, refl, sym, ap, subst, ◌∙◌}
use Rattle.std.proofs.lemmas.Bool.{or_left, lt-ltb, and_from}
use Rattle.kc_types.specs.declared.call.Call.{Call}
use Rattle.kc_types.specs.declared.call.Call.TheVariants.{Take, Give, HostFault, HostRead, HostWrite, RegisterVm, RegisterVcpu, SetBoot, Remap, Verify, Map, GuestRead, GuestWrite, Grant, Revoke, GrantRange, RevokeRange, Drop, Clear}
use Rattle.kc_types.specs.declared.refusal.Refusal.{Refusal}
use Rattle.kc_types.specs.declared.owner.Owner.{Owner}
use Rattle.kc_types.specs.declared.owner.Owner.TheVariants.{Core, Host, Free, Vm}
use Rattle.kc_model.specs.State.{State, Slot, Image, slot_at, mapped_at, no_slot, empty_slot}
use Rattle.kc_model.specs.Refusals.{conditions, refusal, backing, pending, next_gfn}
use Rattle.kc_model.specs.Effects.{effect, hand, host_takes, guest_read, guest_written, verified, all_trimmed, trimmed, unapproved, without}
use Rattle.kc_model.specs.Next.{next, unless_refused}
use Rattle.kc_model.specs.Resources.{is_in, listed_in}
use Rattle.kc_model.specs.Footprints.{gains}
use Rattle.kc_model.specs.Local.{IsOrderly}
use Rattle.kc_model.proofs.States.Frames.{part-set}
use Rattle.kc_model.proofs.States.Members.{is_in-later, is_in-append, is_in-push, is_in-filter, same_number}
use Rattle.kc_model.proofs.Refusals.Served.{none-of}
use Rattle.kc_model.proofs.Local.Needs.{mapped_to}
use Rattle.kc_types.specs.Configuration.{slot_count}
use Rattle.kc_model.proofs.Local.GuestLocals.{mapped-served}
use Rattle.kc_model.proofs.Lawful.Verifies.{slots-trimmed}
use Rattle.kc_model.proofs.Refusals.Answered.{vm-in, frame-in}

-- the lists hold only the frames from before and those that the call's names bring
abbrev pub Grows : State → Call → State → Type 0
Grows m call new = (owner : Owner) (f : ℕ) → listed_in new owner f ≡ true → (listed_in m owner f || gains m.config (listed_in m) call owner f) ≡ true

-- no list changes
kept : (m : State) (call : Call) (new : State) → new.free ≡ m.free → ((w : ℕ) → (slot_at new w).frames ≡ (slot_at m w).frames) → Grows m call new
kept m call new free slots Core f h = cc
kept m call new free slots Host f h = cc
kept m call new free slots Free f h = or_left (is_in m.free f) _ (rw free at h)
kept m call new free slots (Vm w) f h = or_left (is_in (slot_at m w).frames f) _ (rw (slots w) at h)

-- a slot that keeps its list
kept-slot : (m : State) (v : ℕ) (there : Slot) → there.frames ≡ (slot_at m v).frames → (w : ℕ) → (get_or (set m.slots v there) w no_slot).frames ≡ (slot_at m w).frames
kept-slot m v there same w = part-set (λ (s : Slot). s.frames) m.slots v there no_slot same w

-- the element at a place after a write
set-or : (xs : List Slot) (i : ℕ) (x : Slot) (k : ℕ) → ((k ≡ i) × (get_or (set xs i x) k no_slot ≡ x)) ⊎ (get_or (set xs i x) k no_slot ≡ get_or xs k no_slot)
set-or [] i x k = inr refl
set-or (y ∷ ys) zero x zero = inl (refl, refl)
set-or (y ∷ ys) zero x (suc k) = inr refl
set-or (y ∷ ys) (suc i) x zero = inr refl
set-or (y ∷ ys) (suc i) x (suc k) = elim (set-or ys i x k) [ inl at ↦ inl (ap (λ n. suc n) at.0, at.1) | inr apart ↦ inr apart ]

-- a slot that gets a frame
pushed : (m : State) (v f : ℕ) (there : Slot) → there.frames ≡ (slot_at m v).frames ++ f ∷ [] → (w k : ℕ) → is_in (get_or (set m.slots v there) w no_slot).frames k ≡ true → (is_in (slot_at m w).frames k || (nat_eq v w && nat_eq f k)) ≡ true
pushed m v f there is w k h = elim (set-or m.slots v there w) [
  | inl at ↦
      let here : is_in ((slot_at m v).frames ++ f ∷ []) k ≡ true = ap (λ (fs : List ℕ). is_in fs k) (sym (ap (λ (s : Slot). s.frames) at.1 ∙ is)) ∙ h in
      rw (at.0, same_number v) (is_in-push (slot_at m v).frames f k here)
  | inr same ↦ or_left (is_in (slot_at m w).frames k) _ (ap (λ (s : Slot). is_in s.frames k) (sym same) ∙ h)
]

-- a slot that loses a frame
fewer : (m : State) (v f : ℕ) (there : Slot) → there.frames ≡ without (slot_at m v).frames f → (w k : ℕ) → is_in (get_or (set m.slots v there) w no_slot).frames k ≡ true → is_in (slot_at m w).frames k ≡ true
fewer m v f there is w k h = elim (set-or m.slots v there w) [
  | inl at ↦
      let here : is_in (without (slot_at m v).frames f) k ≡ true = ap (λ (fs : List ℕ). is_in fs k) (sym (ap (λ (s : Slot). s.frames) at.1 ∙ is)) ∙ h in
      subst (λ x. is_in (slot_at m x).frames k ≡ true) (sym at.0) (is_in-filter (λ other. not (nat_eq other f)) (slot_at m v).frames k here)
  | inr same ↦ ap (λ (s : Slot). is_in s.frames k) (sym same) ∙ h
]

with_bound : (a b c : Bool) → b ≡ true → (a && c) ≡ true → (a && (b && c)) ≡ true
with_bound true true c b h = h
with_bound true false c b h = cc
with_bound false b c e h = h

or-map : (a b c : Bool) → (b ≡ true → c ≡ true) → (a || b) ≡ true → (a || c) ≡ true
or-map true b c f h = refl
or-map false b c f h = f h

grows-takes : (m : State) (free : List ℕ) → m.free ≡ free → Grows m Take (host_takes m free).1
grows-takes m [] e owner k h = kept m Take m refl (λ w. refl) owner k h
grows-takes m (f ∷ rest) e Core k h = cc
grows-takes m (f ∷ rest) e Host k h = cc
grows-takes m (f ∷ rest) e Free k h = or_left (is_in m.free k) _ (rw e (is_in-later f rest k h))
grows-takes m (f ∷ rest) e (Vm w) k h = or_left (is_in (slot_at m w).frames k) _ h

grows-give : (m : State) (g : ℕ) → refusal m (Give g) ≡ None → Grows m (Give g) (effect m (Give g)).1
grows-give m g served Core k h = cc
grows-give m g served Host k h = cc
grows-give m g served Free k h =
    let bound = lt-ltb g m.config.frames (frame-in m g (none-of (conditions m (Give g)) served 0)) in
    or-map (is_in m.free k) (nat_eq g k) (nat_lt g m.config.frames && nat_eq g k) (and_from (nat_lt g m.config.frames) (nat_eq g k) bound) (is_in-push m.free g k h)
grows-give m g served (Vm w) k h = or_left (is_in (slot_at m w).frames k) _ h

-- the list of a slot after a frame was handed to one
handed : (m : State) (v g f w k : ℕ) → nat_lt f m.config.frames ≡ true → is_in (slot_at (hand m v g f) w).frames k ≡ true → (is_in (slot_at m w).frames k || (nat_eq v w && (nat_lt f m.config.frames && nat_eq f k))) ≡ true
handed m v g f w k bound h =
    or-map (is_in (slot_at m w).frames k) (nat_eq v w && nat_eq f k) (nat_eq v w && (nat_lt f m.config.frames && nat_eq f k)) (with_bound (nat_eq v w) (nat_lt f m.config.frames) (nat_eq f k) bound)
    (pushed m v f _ refl w k h)

grows-remap : (m : State) (v i f : ℕ) → refusal m (Remap v i f) ≡ None → Grows m (Remap v i f) (effect m (Remap v i f)).1
grows-remap m v i f served Core k h = cc
grows-remap m v i f served Host k h = cc
grows-remap m v i f served Free k h = or_left (is_in m.free k) _ h
grows-remap m v i f served (Vm w) k h =
    let bound = lt-ltb f m.config.frames (frame-in m f (none-of (conditions m (Remap v i f)) served 1)) in
    let same = kept-slot (hand m v (next_gfn m v i) f) v _ refl w in
    handed m v (next_gfn m v i) f w k bound (ap (λ (fs : List ℕ). is_in fs k) (sym same) ∙ h)

grows-map : (m : State) (v c f : ℕ) → refusal m (Map v c f) ≡ None → Grows m (Map v c f) (effect m (Map v c f)).1
grows-map m v c f served Core k h = cc
grows-map m v c f served Host k h = cc
grows-map m v c f served Free k h = or_left (is_in m.free k) _ h
grows-map m v c f served (Vm w) k h =
    let bound = lt-ltb f m.config.frames (frame-in m f (none-of (conditions m (Map v c f)) served 2)) in
    let same = kept-slot (hand m v (pending m v c) f) v _ refl w in
    handed m v (pending m v c) f w k bound (ap (λ (fs : List ℕ). is_in fs k) (sym same) ∙ h)

grows-drop : (m : State) (v c g : ℕ) → IsOrderly m → refusal m (Drop v c g) ≡ None → Grows m (Drop v c g) (effect m (Drop v c g)).1
grows-drop m v c g is served Core k h = cc
grows-drop m v c g is served Host k h = cc
grows-drop m v c g is served Free k h =
    let low = vm-in m v (none-of (conditions m (Drop v c g)) served 0) in
    let mine : is_in (slot_at m v).frames (backing (mapped_at m v g)) ≡ true = mapped_to m is v g low (mapped_at m v g) refl (mapped-served m v c g _ served) in
    or-map (is_in m.free k) (nat_eq (backing (mapped_at m v g)) k) (nat_lt v (slot_count m.config) && is_in (slot_at m v).frames k)
    (λ e. and_from (nat_lt v (slot_count m.config)) (is_in (slot_at m v).frames k) (lt-ltb v (slot_count m.config) low) (subst (λ x. is_in (slot_at m v).frames x ≡ true) (eqb-true (backing (mapped_at m v g)) k e) mine))
    (is_in-push m.free (backing (mapped_at m v g)) k h)
grows-drop m v c g is served (Vm w) k h = or_left (is_in (slot_at m w).frames k) _ (fewer m v (backing (mapped_at m v g)) _ refl w k h)

grows-clear : (m : State) (v : ℕ) → refusal m (Clear v) ≡ None → Grows m (Clear v) (effect m (Clear v)).1
grows-clear m v served Core k h = cc
grows-clear m v served Host k h = cc
grows-clear m v served Free k h =
    or-map (is_in m.free k) (is_in (slot_at m v).frames k) (nat_lt v (slot_count m.config) && is_in (slot_at m v).frames k) (and_from (nat_lt v (slot_count m.config)) (is_in (slot_at m v).frames k) (lt-ltb v (slot_count m.config) (vm-in m v (none-of (conditions m (Clear v)) served 0)))) (is_in-append m.free (slot_at m v).frames k h)
grows-clear m v served (Vm w) k h = or_left (is_in (slot_at m w).frames k) _ (elim (set-or m.slots v (empty_slot m.config.version) w) [
  | inl at ↦ let none : is_in (get_or (set m.slots v (empty_slot m.config.version)) w no_slot).frames k ≡ false = ap (λ (s : Slot). is_in s.frames k) at.1 in cc
  | inr same ↦ ap (λ (s : Slot). is_in s.frames k) (sym same) ∙ h
])

free-trimmed : (m : State) (v : ℕ) (images : List Image) → (all_trimmed m v images).free ≡ m.free
free-trimmed m v [] = refl
free-trimmed m v (image ∷ images) = free-trimmed (trimmed m v image) v images

grows-verified : (m : State) (v : ℕ) (failing : Option ℕ) → Grows m (Verify v) (verified m v failing).1
grows-verified m v None owner k h =
    let before = all_trimmed m v (slot_at m v).images in
    kept m (Verify v) (verified m v None).1 (free-trimmed m v (slot_at m v).images)
    (λ w. kept-slot before v _ refl w ∙ ap (λ (slots : List Slot). (get_or slots w no_slot).frames) (slots-trimmed m v (slot_at m v).images)) owner k h
grows-verified m v (Some i) owner k h = kept m (Verify v) (verified m v (Some i)).1 refl (λ w. kept-slot m v _ refl w) owner k h

grows-guest_read : (m : State) (v c g off len : ℕ) (at : Option ℕ) → Grows m (GuestRead v c g off len) (guest_read m v c g off len at).1
grows-guest_read m v c g off len None owner k h = kept m (GuestRead v c g off len) (guest_read m v c g off len None).1 refl (λ w. kept-slot m v _ refl w) owner k h
grows-guest_read m v c g off len (Some f) owner k h = kept m (GuestRead v c g off len) (guest_read m v c g off len (Some f)).1 refl (λ w. kept-slot m v _ refl w) owner k h

grows-guest_written : (m : State) (v c g off : ℕ) (bytes : List ℕ) (at : Option ℕ) → Grows m (GuestWrite v c g off bytes) (guest_written m v c g off bytes at).1
grows-guest_written m v c g off bytes None owner k h = kept m (GuestWrite v c g off bytes) (guest_written m v c g off bytes None).1 refl (λ w. kept-slot m v _ refl w) owner k h
grows-guest_written m v c g off bytes (Some f) owner k h = kept m (GuestWrite v c g off bytes) (guest_written m v c g off bytes (Some f)).1 refl (λ w. kept-slot m v _ refl w) owner k h

grows-effect : (m : State) (call : Call) → IsOrderly m → refusal m call ≡ None → Grows m call (effect m call).1
grows-effect m Take is served = grows-takes m m.free refl
grows-effect m (Give f) is served = grows-give m f served
grows-effect m (HostFault f) is served = kept m (HostFault f) (effect m (HostFault f)).1 refl (λ w. refl)
grows-effect m (HostRead f off len) is served = kept m (HostRead f off len) m refl (λ w. refl)
grows-effect m (HostWrite f off bytes) is served = kept m (HostWrite f off bytes) (effect m (HostWrite f off bytes)).1 refl (λ w. refl)
grows-effect m (RegisterVm v) is served = kept m (RegisterVm v) (effect m (RegisterVm v)).1 refl (λ w. kept-slot m v _ refl w)
grows-effect m (RegisterVcpu v c) is served = kept m (RegisterVcpu v c) (effect m (RegisterVcpu v c)).1 refl (λ w. kept-slot m v _ refl w)
grows-effect m (SetBoot v base len) is served = kept m (SetBoot v base len) (effect m (SetBoot v base len)).1 refl (λ w. kept-slot m v _ refl w)
grows-effect m (Remap v i f) is served = grows-remap m v i f served
grows-effect m (Verify v) is served = grows-verified m v (unapproved m v)
grows-effect m (Map v c f) is served = grows-map m v c f served
grows-effect m (GuestRead v c g off len) is served = grows-guest_read m v c g off len (mapped_at m v g)
grows-effect m (GuestWrite v c g off bytes) is served = grows-guest_written m v c g off bytes (mapped_at m v g)
grows-effect m (Grant v c g) is served = kept m (Grant v c g) (effect m (Grant v c g)).1 refl (λ w. refl)
grows-effect m (Revoke v c g) is served = kept m (Revoke v c g) (effect m (Revoke v c g)).1 refl (λ w. refl)
grows-effect m (GrantRange v c g n) is served = kept m (GrantRange v c g n) (effect m (GrantRange v c g n)).1 refl (λ w. refl)
grows-effect m (RevokeRange v c g n) is served = kept m (RevokeRange v c g n) (effect m (RevokeRange v c g n)).1 refl (λ w. refl)
grows-effect m (Drop v c g) is served = grows-drop m v c g is served
grows-effect m (Clear v) is served = grows-clear m v served

grows-unless : (refused : Option Refusal) (m : State) (call : Call) → IsOrderly m → refusal m call ≡ refused → Grows m call (unless_refused refused m call).1
grows-unless None m call is served = grows-effect m call is served
grows-unless (Some r) m call is served = kept m call m refl (λ w. refl)

pub grows-next : (m : State) (call : Call) → IsOrderly m → Grows m call (next m call).1
unfolding next
grows-next m call is = grows-unless (refusal m call) m call is refl
