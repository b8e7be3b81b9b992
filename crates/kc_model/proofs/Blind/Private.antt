-- No call but a grant shares a secret frame.
use Rattle.std.proofs.Common.{ℕ, zero, suc, ◌≡◌, ◌<◌, ◌≤◌, ◌+◌, inl, inr, Bool, true, false, List, [], ◌∷◌, ◌++◌, length, refl, sym, ap, subst, ◌∙◌, arith, Option, None, Some, get_or-set_other}
use Rattle.std.proofs.lemmas.Bool.{cases_eq, cases_lt, and_parts}
use Rattle.std.proofs.lemmas.Grind.{common_steps}
use Rattle.std.specs.List.{range_with_len}
use Rattle.kc_types.specs.declared.call.Call.{Call}
use Rattle.kc_types.specs.declared.call.Call.TheVariants.{Take, Give, HostFault, HostRead, HostWrite, RegisterVm, RegisterVcpu, SetBoot, Remap, Verify, Map, GuestRead, GuestWrite, Grant, Revoke, GrantRange, RevokeRange, Drop, Clear}
use Rattle.kc_types.specs.declared.refusal.Refusal.{Refusal}
use Rattle.kc_types.specs.declared.owner.Owner.{Owner}
use Rattle.kc_types.specs.declared.owner.Owner.TheVariants.{Core, Host, Free, Vm}
use Rattle.kc_types.specs.declared.slot.Phase.{Phase}
use Rattle.kc_types.specs.declared.slot.Phase.TheVariants.{Booting, Active, Dead}
use Rattle.kc_model.specs.State.{State, Frame, Slot, Image, frame_at, slot_at, mapped_at, with_frame, with_slot, untouched, zero_page}
use Rattle.kc_model.specs.Refusals.{refusal, is_active, backing, next_gfn, pending, conditions}
use Rattle.kc_model.specs.Effects.{effect, host_takes, hand, guest_read, guest_written, written, cleared, dropped, trimmed, all_trimmed, verified, unapproved, with_phase, with_each, granted, revoked}
use Rattle.kc_model.specs.Next.{next, unless_refused}
use Rattle.kc_model.specs.Lawful.{IsLawful, same_owner, is_vm}
use Rattle.kc_model.specs.Blind.{Secret, is_secret, names_secret, is_running, grants_secret, IsPrivate}
use Rattle.kc_model.proofs.Refusals.Served.{none-of}
use Rattle.kc_model.proofs.Refusals.Answered.{vm-in, was-empty}
use Rattle.kc_model.proofs.Safe.Measured.{set-here}
use Rattle.kc_model.proofs.Lawful.GuestCalls.{guest_frame-served}
use Rattle.kc_model.proofs.Lawful.RangeCalls.{guest_range-served}
use Rattle.kc_model.proofs.States.Each.{none-in}
use Rattle.kc_model.proofs.States.Frames.{part-set}
use Rattle.kc_model.proofs.Lawful.HandCalls.{remap-served, map-served}
use Rattle.kc_model.proofs.Lawful.Verifies.{verify-served, each_last_page, lawful-all_trimmed, slots-trimmed, exists-trimmed}
use Rattle.kc_model.proofs.Lawful.Clears.{after, slot-kept}
use Rattle.kc_model.proofs.Blind.Unseen.{open-mapped, running-kept, running-elsewhere}
use Rattle.kc_types.specs.Configuration.{slot_count}

-- a state whose slot runs or not, as `b` says
private-by : (s : Secret) (m : State) (b : Bool) → is_running m s.vm ≡ b → ((f : ℕ) → is_secret s b (frame_at m f) ≡ true → (frame_at m f).share ≡ 0) → IsPrivate s m
private-by s m b running private f e = private f (subst (λ t. is_secret s t (frame_at m f) ≡ true) running e)

-- one frame that is written
private-write : (s : Secret) (m : State) (k : ℕ) (x : Frame) → IsPrivate s m → (is_secret s (is_running m s.vm) x ≡ true → x.share ≡ 0) → IsPrivate s (with_frame m k x)
private-write s m k x private here f e = elim (cases_eq f k) [
  | inl same ↦ elim (set-here m.frames k x (untouched Core)) [
    | inl is ↦ let at : frame_at (with_frame m k x) f ≡ x = rw same is in ap (λ (y : Frame). y.share) at ∙ here (sym (ap (is_secret s (is_running m s.vm)) at) ∙ e)
    | inr is ↦ let at : frame_at (with_frame m k x) f ≡ untouched Core = rw same is in let no_it = ap (is_secret s (is_running m s.vm)) at in absurd cc
  ]
  | inr other ↦ let at : frame_at (with_frame m k x) f ≡ frame_at m f = get_or-set_other m.frames k f x (untouched Core) other in ap (λ (y : Frame). y.share) at ∙ private f (sym (ap (is_secret s (is_running m s.vm)) at) ∙ e)
]

-- one slot that is written
private-slot : (s : Secret) (m : State) (w : ℕ) (slot : Slot) → IsPrivate s m → is_active slot.phase ≡ is_active (slot_at m w).phase → IsPrivate s (with_slot m w slot)
private-slot s m w slot private same = private-by s (with_slot m w slot) (is_running m s.vm) (running-kept m w slot s.vm same) private

host-share : (m : State) (f : ℕ) → IsLawful m → f < length m.frames → (frame_at m f).owner ≡ Host → (frame_at m f).share ≡ 0
host-share m f is lt host = elim (cases_lt 0 (frame_at m f).share) [
  | inl some ↦ let vm = (is.each_frame f lt).sharer some in let no_it : is_vm (frame_at m f).owner ≡ false = ap is_vm host in absurd cc
  | inr none ↦ omega arith
]

private-takes : (s : Secret) (m : State) (free : List ℕ) → IsPrivate s m → IsPrivate s (host_takes m free).1
private-takes s m [] private = private
private-takes s m (f ∷ rest) private = private-write s m f (record (frame_at m f) { owner = Host; present = false }) private (λ e. absurd cc)

private-reads : (s : Secret) (m : State) (v c g off len : ℕ) (at : Option ℕ) → IsPrivate s m → IsPrivate s (guest_read m v c g off len at).1
private-reads s m v c g off len None private = private-slot s m v _ private refl
private-reads s m v c g off len (Some f) private = private-slot s m v _ private refl

private-writes : (s : Secret) (m : State) (v c g off : ℕ) (bytes : List ℕ) (at : Option ℕ) → IsPrivate s m → IsPrivate s (guest_written m v c g off bytes at).1
private-writes s m v c g off bytes None private = private-slot s m v _ private refl
private-writes s m v c g off bytes (Some f) private = private-slot s (written m f off bytes) v _ (private-write s m f _ private (λ e. private f e)) refl

private-trims : (s : Secret) (m : State) (w : ℕ) (images : List Image) → IsPrivate s m → IsPrivate s (all_trimmed m w images)
private-trims s m w [] private = private
private-trims s m w (image ∷ images) private = private-trims s (trimmed m w image) w images (private-write s m _ _ private (λ e. private _ e))

owner-is : (owner : Owner) (v : ℕ) → same_owner owner (Vm v) ≡ true → owner ≡ Vm v
owner-is (Vm w) v e = ap Vm (grind (arith, common_steps, e))
owner-is Core v e = cc
owner-is Host v e = cc
owner-is Free v e = cc

pub secret-owner : (s : Secret) (b : Bool) (x : Frame) → is_secret s b x ≡ true → x.owner ≡ Vm s.vm
secret-owner s b x e = owner-is x.owner s.vm (and_parts (same_owner x.owner (Vm s.vm)) _ e).0

-- a slot that boots shares nothing
booting-share : (m : State) (w f : ℕ) → IsLawful m → w < slot_count m.config → (slot_at m w).phase ≡ Booting → (frame_at m f).owner ≡ Vm w → (frame_at m f).share ≡ 0
booting-share m w f is w_in booting owner = elim (cases_lt 0 (frame_at m f).share) [
  | inl some ↦ let active = is.shared w f w_in owner some in absurd cc
  | inr none ↦ omega arith
]

private-phase : (s : Secret) (m : State) (w : ℕ) (phase : Phase) → IsLawful m → w < slot_count m.config → (slot_at m w).phase ≡ Booting → IsPrivate s m → IsPrivate s (with_phase m w phase)
private-phase s m w phase is w_in booting private = elim (cases_eq s.vm w) [
  | inl same ↦ λ f e. booting-share m w f is w_in booting (secret-owner s (is_running (with_phase m w phase) s.vm) (frame_at m f) e ∙ ap Vm same)
  | inr ne ↦ private-by s (with_phase m w phase) (is_running m s.vm) (running-elsewhere m w _ s.vm ne) private
]

private-verified : (s : Secret) (m : State) (w : ℕ) (first : Option ℕ) → IsLawful m → refusal m (Verify w) ≡ None → IsPrivate s m → IsPrivate s (verified m w first).1
private-verified s m w None is served private =
    let seen = verify-served m w served in
    let images = (slot_at m w).images in
    let still : (slot_at (all_trimmed m w images) w).phase ≡ Booting = subst (λ (slots : List Slot). (slot_at (record m { slots = slots }) w).phase ≡ Booting) (sym (slots-trimmed m w images)) seen.1 in
    private-phase s (all_trimmed m w images) w Active (lawful-all_trimmed m w images is seen.0 (each_last_page m w is seen.0 seen.1 seen.2)) (exists-trimmed m w w images seen.0) still (private-trims s m w images private)
private-verified s m w (Some i) is served private =
    let seen = verify-served m w served in
    private-phase s m w Dead is seen.0 seen.1 private

private-clear : (s : Secret) (m : State) (w : ℕ) → IsLawful m → w < slot_count m.config → IsPrivate s m → IsPrivate s (cleared m w)
private-clear s m w is w_in private f e = elim (after m w f is w_in) [
  | inl mine ↦ ap (λ (y : Frame). y.share) mine.1
  | inr other ↦ ap (λ (y : Frame). y.share) other.1 ∙ kept other.0 (sym (ap (is_secret s (is_running (cleared m w) s.vm)) other.1) ∙ e)
]
  where
    kept : ((frame_at m f).owner ≡ Vm w → ⊥) → is_secret s (is_running (cleared m w) s.vm) (frame_at m f) ≡ true → (frame_at m f).share ≡ 0
    kept theirs secret =
        let owner = secret-owner s (is_running (cleared m w) s.vm) (frame_at m f) secret in
        let ne : s.vm ≡ w → ⊥ = λ same. theirs (owner ∙ ap Vm same) in
        let running : is_running (cleared m w) s.vm ≡ is_running m s.vm = ap (λ (x : Slot). is_active x.phase) (slot-kept m w s.vm ne) in
        private f (subst (λ t. is_secret s t (frame_at m f) ≡ true) running secret)

private-handed : (s : Secret) (m : State) (v g f : ℕ) → IsPrivate s m → (frame_at m f).share ≡ 0 → IsPrivate s (hand m v g f)
private-handed s m v g f private none =
    let x : Frame = record (frame_at m f) { owner = Vm v; gfn = Some g; present = false } in
    private-slot s (with_frame m f x) v _ (private-write s m f x private (λ e. none)) refl

private-dropped : (s : Secret) (m : State) (v g f : ℕ) → IsPrivate s m → IsPrivate s (dropped m v g f)
private-dropped s m v g f private =
    let x : Frame = record (frame_at m f) { owner = Free; gfn = None; present = false; bytes = zero_page } in
    private-slot s (record (with_frame m f x) { free = m.free ++ f ∷ [] }) v _ (private-write s m f x private (λ e. absurd cc)) refl

-- grants of frames that are not secret, and revokes of any
private-grants : (s : Secret) (m : State) (v g n : ℕ) → IsPrivate s m → ((h : ℕ) → g ≤ h → h < g + n → is_secret s (is_running m s.vm) (frame_at m (backing (mapped_at m v h))) ≡ false) → IsPrivate s (with_each m v (range_with_len g n) granted)
private-grants s m v g zero private shown = private
private-grants s m v g (suc n) private shown =
    let f = backing (mapped_at m v g) in
    let first = shown g (omega arith) (omega arith) in
    private-grants s (with_frame m f (granted (frame_at m f))) v (g + 1) n (private-write s m f (granted (frame_at m f)) private (λ e. absurd cc)) (λ h low high.
    part-set (is_secret s (is_running m s.vm)) m.frames f (granted (frame_at m f)) (untouched Core) refl (backing (mapped_at m v h)) ∙ shown h (omega (arith, low)) (omega (arith, high)))

private-revokes : (s : Secret) (m : State) (v : ℕ) (gs : List ℕ) → IsPrivate s m → IsPrivate s (with_each m v gs revoked)
private-revokes s m v [] private = private
private-revokes s m v (g ∷ gs) private =
    let f = backing (mapped_at m v g) in
    private-revokes s (with_frame m f (revoked (frame_at m f))) v gs (private-write s m f (revoked (frame_at m f)) private (λ e. let none = private f e in omega (arith, none)))

private-effect : (s : Secret) (m : State) (call : Call) → IsLawful m → IsPrivate s m → grants_secret s call ≡ false → refusal m call ≡ None → IsPrivate s (effect m call).1
private-effect s m Take is private grants served = private-takes s m m.free private
private-effect s m (Give f) is private grants served = private-write s m f _ private (λ e. absurd cc)
private-effect s m (HostFault f) is private grants served = private-write s m f _ private (λ e. private f e)
private-effect s m (HostRead f off len) is private grants served = private
private-effect s m (HostWrite f off bytes) is private grants served = private-write s m f _ private (λ e. private f e)
private-effect s m (RegisterVm w) is private grants served =
    private-slot s m w _ private (sym (ap is_active (was-empty m w _ (none-of (conditions m (RegisterVm w)) served 1))))
private-effect s m (RegisterVcpu w c) is private grants served = private-slot s m w _ private refl
private-effect s m (SetBoot w base len) is private grants served = private-slot s m w _ private refl
private-effect s m (Remap w i f) is private grants served =
    let seen = remap-served m w i f served in
    let none = host-share m f is (rw is.frames seen.frame) seen.host in
    private-slot s (hand m w (next_gfn m w i) f) w _ (private-handed s m w (next_gfn m w i) f private none) refl
private-effect s m (Verify w) is private grants served = private-verified s m w (unapproved m w) is served private
private-effect s m (Map w c f) is private grants served =
    let seen = map-served m w c f served in
    let none = host-share m f is (rw is.frames seen.frame) seen.host in
    private-slot s (hand m w (pending m w c) f) w _ (private-handed s m w (pending m w c) f private none) refl
private-effect s m (GuestRead w c g off len) is private grants served = private-reads s m w c g off len (mapped_at m w g) private
private-effect s m (GuestWrite w c g off bytes) is private grants served = private-writes s m w c g off bytes (mapped_at m w g) private
private-effect s m (Grant w c g) is private grants served =
    let seen = guest_frame-served m w c g _ served in
    let no_it = open-mapped s m w g (backing (mapped_at m w g)) is seen.0.call.vm seen.0.mapped grants in
    private-write s m (backing (mapped_at m w g)) _ private (λ e. absurd cc)
private-effect s m (Revoke w c g) is private grants served = private-write s m (backing (mapped_at m w g)) _ private (λ e. let none = private (backing (mapped_at m w g)) e in omega (arith, none))
private-effect s m (GrantRange w c g n) is private grants served =
    let seen = guest_range-served m w c g n _ served in
    private-grants s m w g n private (λ h low high. open-mapped s m w h (backing (mapped_at m w h)) is seen.0.call.vm (seen.0.mapped h low high) (none-in (names_secret s w) g n h grants low high))
private-effect s m (RevokeRange w c g n) is private grants served = private-revokes s m w (range_with_len g n) private
private-effect s m (Drop w c g) is private grants served = private-dropped s m w g (backing (mapped_at m w g)) private
private-effect s m (Clear w) is private grants served = private-clear s m w is (vm-in m w (none-of (conditions m (Clear w)) served 0)) private

private-unless : (refused : Option Refusal) (s : Secret) (m : State) (call : Call) → IsLawful m → IsPrivate s m → grants_secret s call ≡ false → refusal m call ≡ refused → IsPrivate s (unless_refused refused m call).1
private-unless None s m call is private grants served = private-effect s m call is private grants served
private-unless (Some r) s m call is private grants served = private

-- a call that grants no secret keeps the secrets private
pub private-next : (s : Secret) (m : State) (call : Call) → IsLawful m → IsPrivate s m → grants_secret s call ≡ false → IsPrivate s (next m call).1
unfolding next
private-next s m call is private grants = private-unless (refusal m call) s m call is private grants refl
