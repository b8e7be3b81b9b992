-- Every trace from a lawful state counts grants.
use Rattle.std.proofs.Common.{ℕ, zero, suc, ◌≡◌, ◌<◌, ◌≤◌, ◌+◌, inl, inr, Bool, true, false, cond, ◌&&◌, length, List, [], ◌∷◌, nat_eq, get_or, set, refl, sym, ap, subst, ◌∙◌, Option, None, Some, arith, length-set, get_or-set_same, get_or-set_other}
use Rattle.std.proofs.lemmas.Grind.{common_steps}
use Rattle.std.proofs.lemmas.Bool.{cases_eq, cases_lt, eq-eqb, ne_eqb, le-leb, lt-ltb, eqb-false}
use Rattle.std.specs.List.{range_with_len}
use Rattle.std.specs.FinMap as map
use Rattle.std.specs.Ordering.{nat_cmp}
use Rattle.kc_types.specs.Configuration.{slot_count}
use Rattle.kc_types.specs.declared.call.Call.{Call}
use Rattle.kc_types.specs.declared.call.Call.TheVariants.{Take, Give, HostFault, HostRead, HostWrite, RegisterVm, RegisterVcpu, SetBoot, Remap, Verify, Map, GuestRead, GuestWrite, Grant, Revoke, GrantRange, RevokeRange, Drop, Clear}
use Rattle.kc_types.specs.declared.reply.Reply.TheVariants as reply
use Rattle.kc_types.specs.declared.refusal.Refusal.{Refusal}
use Rattle.kc_types.specs.declared.owner.Owner.TheVariants.{Core, Host, Vm}
use Rattle.kc_model.specs.State.{State, Frame, Slot, Image, frame_at, slot_at, mapped_at, untouched}
use Rattle.kc_model.specs.Refusals.{refusal, backing, conditions}
use Rattle.kc_model.specs.Effects.{effect, host_takes, guest_read, guest_written, trimmed, all_trimmed, verified, unapproved, frames_under, changed_each, with_each, granted, revoked}
use Rattle.kc_model.specs.Next.{next, unless_refused}
use Rattle.kc_model.specs.Lawful.{IsLawful, is_vm}
use Rattle.kc_model.specs.Sharing.{is_within, CountsGrants, ComesUnshared, IsShared}
use Rattle.kc_model.proofs.States.Frames.{part-set}
use Rattle.kc_model.proofs.States.Each.{part-changed}
use Rattle.kc_model.proofs.States.Changes.{exists, vm-same}
use Rattle.kc_model.proofs.States.Slots.{slot-past}
use Rattle.kc_model.proofs.Refusals.Served.{none-of}
use Rattle.kc_model.proofs.Refusals.Answered.{vm-in}
use Rattle.kc_model.proofs.Lawful.GuestCalls.{guest_frame-served, owner-mapped, exists-mapped}
use Rattle.kc_model.proofs.Lawful.RangeCalls.{guest_range-served, apart}
use Rattle.kc_model.proofs.Lawful.Clears.{after}
use Rattle.kc_model.proofs.Safe.Alone.{each-kept, not-theirs}
use Rattle.kc_model.proofs.Safe.Safe.{every_step}

-- the frame at one guest frame of a range, and at no other of it, is changed once
each-once : (change : Frame → Frame) (mapped : map.FinMap nat_cmp ℕ) (frames : List Frame) (h n f g : ℕ) → h ≤ g → g < h + n → backing (map.get mapped g) ≡ f → f < length frames
    → ((j : ℕ) → h ≤ j → j < h + n → (j ≡ g → ⊥) → f ≡ backing (map.get mapped j) → ⊥)
    → get_or (changed_each change frames (frames_under mapped (range_with_len h n))) f (untouched Core) ≡ change (get_or frames f (untouched Core))
each-once change mapped frames h zero f g low high at lt away = absurd (omega (arith, low, high))
each-once change mapped frames h (suc n) f g low high at lt away = elim (cases_eq h g) [
  | inl same ↦
      let k = backing (map.get mapped h) in
      let is_f : k ≡ f = subst (λ x. backing (map.get mapped x) ≡ f) (sym same) at in
      each-kept change mapped (set frames k (change (get_or frames k (untouched Core)))) (h + 1) n f (λ j l u. away j (omega (arith, l)) (omega (arith, u)) (λ e. omega (arith, e, l, same)))
      ∙ subst (λ x. get_or (set frames x (change (get_or frames x (untouched Core)))) f (untouched Core) ≡ change (get_or frames f (untouched Core))) (sym is_f) (get_or-set_same frames f _ (untouched Core) lt)
  | inr other ↦
      let k = backing (map.get mapped h) in
      each-once change mapped (set frames k (change (get_or frames k (untouched Core)))) (h + 1) n f g (omega (arith, low, other)) (omega (arith, high)) at (rw (length-set frames k (change (get_or frames k (untouched Core)))) lt) (λ j l u. away j (omega (arith, l)) (omega (arith, u)))
      ∙ ap change (get_or-set_other frames k f _ (untouched Core) (away h (omega arith) (omega arith) other))
]

-- what a call on one guest frame, or on a range of them, makes of a page's grants
module _ (change : Frame → Frame) (m : State) (v g f : ℕ) (is : IsLawful m) (v_in : v < slot_count m.config) (mapped : mapped_at m v g ≡ Some f) where
  lt : f < length m.frames
  lt = exists-mapped m v g f is v_in mapped

  of-one : (w h : ℕ) → w < slot_count m.config → mapped_at m w h ≡ Some (backing (mapped_at m w h)) → frame_at (with_each m w (h ∷ []) change) f ≡ cond ((nat_eq w v) && (nat_eq h g)) (change (frame_at m f)) (frame_at m f)
  of-one w h w_in there = elim (cases_eq w v) [
    | inr other ↦ rw (ne_eqb w v other) (get_or-set_other m.frames _ f _ (untouched Core) (not-theirs m v w f _ (owner-mapped m v g f is v_in mapped) (owner-mapped m w h _ is w_in there) other))
    | inl same ↦ elim (cases_eq h g) [
      | inr other ↦ rw (eq-eqb w v same, ne_eqb h g other) (get_or-set_other m.frames _ f _ (untouched Core)
          (λ e. apart m v g h f (backing (mapped_at m w h)) is v_in mapped (subst (λ x. mapped_at m x h ≡ Some (backing (mapped_at m w h))) same there) other (sym e)))
      | inl also ↦
          let at : backing (mapped_at m w h) ≡ f = ap backing (subst (λ x. mapped_at m x h ≡ Some f) (sym same) (subst (λ x. mapped_at m v x ≡ Some f) (sym also) mapped)) in
          rw (eq-eqb w v same, eq-eqb h g also) (subst (λ x. get_or (set m.frames x (change (get_or m.frames x (untouched Core)))) f (untouched Core) ≡ change (get_or m.frames f (untouched Core))) (sym at) (get_or-set_same m.frames f _ (untouched Core) lt))
    ]
  ]

  of-range : (w h n : ℕ) → w < slot_count m.config → ((j : ℕ) → h ≤ j → j < h + n → mapped_at m w j ≡ Some (backing (mapped_at m w j))) → frame_at (with_each m w (range_with_len h n) change) f ≡ cond ((nat_eq w v) && is_within g h n) (change (frame_at m f)) (frame_at m f)
  of-range w h n w_in there = elim (cases_eq w v) [
    | inr other ↦ rw (ne_eqb w v other) (each-kept change (slot_at m w).mapped m.frames h n f (λ j low high. not-theirs m v w f _ (owner-mapped m v g f is v_in mapped) (owner-mapped m w j _ is w_in (there j low high)) other))
    | inl same ↦ rw (eq-eqb w v same) (by-test same (is_within g h n) refl)
  ]
    where
      by-test : w ≡ v → (b : Bool) → is_within g h n ≡ b → frame_at (with_each m w (range_with_len h n) change) f ≡ cond b (change (frame_at m f)) (frame_at m f)
      by-test same true e =
          let at : backing (mapped_at m w g) ≡ f = ap backing (subst (λ x. mapped_at m x g ≡ Some f) (sym same) mapped) in
          each-once change (slot_at m w).mapped m.frames h n f g (grind (arith, common_steps, e)) (grind (arith, common_steps, e)) at lt
          (λ j low high other same_f. apart m v g j f (backing (mapped_at m w j)) is v_in mapped (subst (λ x. mapped_at m x j ≡ Some (backing (mapped_at m w j))) same (there j low high)) other (sym same_f))
      by-test same false e = each-kept change (slot_at m w).mapped m.frames h n f
          (λ j low high same_f. apart m v g j f (backing (mapped_at m w j)) is v_in mapped (subst (λ x. mapped_at m x j ≡ Some (backing (mapped_at m w j))) same (there j low high))
          (λ here. let yes : is_within g h n ≡ true = rw (le-leb h g (omega (arith, low, here)), lt-ltb g (h + n) (omega (arith, high, here))) refl in cc) (sym same_f))

-- the share of one of two frames
pick : (b : Bool) (x y : Frame) → (cond b x y).share ≡ cond b x.share y.share
pick true x y = refl
pick false x y = refl

-- other calls leave the number of grants
takes-share : (m : State) (free : List ℕ) (f : ℕ) → (frame_at (host_takes m free).1 f).share ≡ (frame_at m f).share
takes-share m [] f = refl
takes-share m (k ∷ rest) f = part-set (λ (x : Frame). x.share) m.frames k _ (untouched Core) refl f

reads-share : (m : State) (v c g off len : ℕ) (at : Option ℕ) (f : ℕ) → (frame_at (guest_read m v c g off len at).1 f).share ≡ (frame_at m f).share
reads-share m v c g off len None f = refl
reads-share m v c g off len (Some k) f = refl

writes-share : (m : State) (v c g off : ℕ) (bytes : List ℕ) (at : Option ℕ) (f : ℕ) → (frame_at (guest_written m v c g off bytes at).1 f).share ≡ (frame_at m f).share
writes-share m v c g off bytes None f = refl
writes-share m v c g off bytes (Some k) f = part-set (λ (x : Frame). x.share) m.frames k _ (untouched Core) refl f

trims-share : (m : State) (v : ℕ) (images : List Image) (f : ℕ) → (frame_at (all_trimmed m v images) f).share ≡ (frame_at m f).share
trims-share m v [] f = refl
trims-share m v (image ∷ images) f = trims-share (trimmed m v image) v images f ∙ part-set (λ (x : Frame). x.share) m.frames _ _ (untouched Core) refl f

verifies-share : (m : State) (v : ℕ) (first : Option ℕ) (f : ℕ) → (frame_at (verified m v first).1 f).share ≡ (frame_at m f).share
verifies-share m v None f = trims-share m v (slot_at m v).images f
verifies-share m v (Some i) f = refl

-- a slot that maps a page exists
mapping-in : (m : State) (v g f : ℕ) → IsLawful m → mapped_at m v g ≡ Some f → v < slot_count m.config
mapping-in m v g f is mapped = elim (cases_lt v (slot_count m.config)) [
  | inl low ↦ low
  | inr high ↦ let none : mapped_at m v g ≡ None = ap (λ (there : Slot). map.get there.mapped g) (slot-past m v is.slots high) ∙ map.get-empty nat_cmp g in cc
]

counts-effect : (m : State) (call : Call) → IsLawful m → refusal m call ≡ None → CountsGrants m call (effect m call).0 (effect m call).1
counts-effect m Take is served v g f mapped stays = takes-share m m.free f
counts-effect m (Give k) is served v g f mapped stays = part-set (λ (x : Frame). x.share) m.frames k _ (untouched Core) refl f
counts-effect m (HostFault k) is served v g f mapped stays = part-set (λ (x : Frame). x.share) m.frames k _ (untouched Core) refl f
counts-effect m (HostRead k off len) is served v g f mapped stays = refl
counts-effect m (HostWrite k off bytes) is served v g f mapped stays = part-set (λ (x : Frame). x.share) m.frames k _ (untouched Core) refl f
counts-effect m (RegisterVm w) is served v g f mapped stays = refl
counts-effect m (RegisterVcpu w c) is served v g f mapped stays = refl
counts-effect m (SetBoot w base len) is served v g f mapped stays = refl
counts-effect m (Remap w i k) is served v g f mapped stays = part-set (λ (x : Frame). x.share) m.frames k _ (untouched Core) refl f
counts-effect m (Verify w) is served v g f mapped stays = verifies-share m w (unapproved m w) f
counts-effect m (Map w c k) is served v g f mapped stays = part-set (λ (x : Frame). x.share) m.frames k _ (untouched Core) refl f
counts-effect m (GuestRead w c h off len) is served v g f mapped stays = reads-share m w c h off len (mapped_at m w h) f
counts-effect m (GuestWrite w c h off bytes) is served v g f mapped stays = writes-share m w c h off bytes (mapped_at m w h) f
counts-effect m (Grant w c h) is served v g f mapped stays =
    let seen = guest_frame-served m w c h _ served in
    let now = of-one granted m v g f is (mapping-in m v g f is mapped) mapped w h seen.0.call.vm seen.0.mapped in
    ap (λ (x : Frame). x.share) now ∙ pick (nat_eq w v && nat_eq h g) (granted (frame_at m f)) (frame_at m f)
counts-effect m (Revoke w c h) is served v g f mapped stays =
    let seen = guest_frame-served m w c h _ served in
    let now = of-one revoked m v g f is (mapping-in m v g f is mapped) mapped w h seen.0.call.vm seen.0.mapped in
    ap (λ (x : Frame). x.share) now ∙ pick (nat_eq w v && nat_eq h g) (revoked (frame_at m f)) (frame_at m f)
counts-effect m (GrantRange w c h n) is served v g f mapped stays =
    let seen = guest_range-served m w c h n _ served in
    let now = of-range granted m v g f is (mapping-in m v g f is mapped) mapped w h n seen.0.call.vm seen.0.mapped in
    ap (λ (x : Frame). x.share) now ∙ pick (nat_eq w v && is_within g h n) (granted (frame_at m f)) (frame_at m f)
counts-effect m (RevokeRange w c h n) is served v g f mapped stays =
    let seen = guest_range-served m w c h n _ served in
    let now = of-range revoked m v g f is (mapping-in m v g f is mapped) mapped w h n seen.0.call.vm seen.0.mapped in
    ap (λ (x : Frame). x.share) now ∙ pick (nat_eq w v && is_within g h n) (revoked (frame_at m f)) (frame_at m f)
counts-effect m (Drop w c h) is served v g f mapped stays = part-set (λ (x : Frame). x.share) m.frames (backing (mapped_at m w h)) _ (untouched Core) refl f
counts-effect m (Clear w) is served v g f mapped stays = elim (after m w f is (vm-in m w (none-of (conditions m (Clear w)) served 0))) [
  | inl mine ↦ absurd (eqb-false w v stays (vm-same w v (sym mine.0 ∙ owner-mapped m v g f is (mapping-in m v g f is mapped) mapped)))
  | inr theirs ↦ ap (λ (x : Frame). x.share) theirs.1
]

counts-refused : (m : State) (call : Call) (r : Refusal) → CountsGrants m call (reply.Refused r) m
counts-refused m (Grant w c h) r v g f mapped stays = refl
counts-refused m (Revoke w c h) r v g f mapped stays = refl
counts-refused m (GrantRange w c h n) r v g f mapped stays = refl
counts-refused m (RevokeRange w c h n) r v g f mapped stays = refl
counts-refused m _ r v g f mapped stays = refl

counts-unless : (refused : Option Refusal) (m : State) (call : Call) → IsLawful m → refusal m call ≡ refused → CountsGrants m call (unless_refused refused m call).0 (unless_refused refused m call).1
counts-unless None m call is served = counts-effect m call is served
counts-unless (Some r) m call is served = counts-refused m call r

counts : (m : State) (call : Call) → IsLawful m → CountsGrants m call (next m call).0 (next m call).1
unfolding next
counts m call is = counts-unless (refusal m call) m call is refl

-- the host's frames are not shared
hosts : (m : State) (f : ℕ) → IsLawful m → (frame_at m f).owner ≡ Host → (frame_at m f).share ≡ 0
hosts m f is host =
    let frame = is.each_frame f (exists m f (λ core. cc)) in
    none (frame_at m f).share (λ some. let vm = frame.sharer some in let not_vm : is_vm (frame_at m f).owner ≡ false = ap is_vm host in cc)
  where
    none : (share : ℕ) → (0 < share → ⊥) → share ≡ 0
    none zero never = refl
    none (suc n) never = absurd (never (omega arith))

-- a frame that does not change its owner does not come to a VM
no-coming : (m n : State) (v f : ℕ) → (frame_at n f).owner ≡ (frame_at m f).owner → (frame_at m f).owner ≡ Host → (frame_at n f).owner ≡ Vm v → ⊥
no-coming m n v f same host now = cc

comes-effect : (m : State) (call : Call) → IsLawful m → refusal m call ≡ None → ComesUnshared m call (effect m call).0 (effect m call).1
comes-effect m Take is served v f host now = takes-share m m.free f ∙ hosts m f is host
comes-effect m (Give k) is served v f host now = part-set (λ (x : Frame). x.share) m.frames k _ (untouched Core) refl f ∙ hosts m f is host
comes-effect m (HostFault k) is served v f host now = part-set (λ (x : Frame). x.share) m.frames k _ (untouched Core) refl f ∙ hosts m f is host
comes-effect m (HostRead k off len) is served v f host now = hosts m f is host
comes-effect m (HostWrite k off bytes) is served v f host now = part-set (λ (x : Frame). x.share) m.frames k _ (untouched Core) refl f ∙ hosts m f is host
comes-effect m (RegisterVm w) is served v f host now = hosts m f is host
comes-effect m (RegisterVcpu w c) is served v f host now = hosts m f is host
comes-effect m (SetBoot w base len) is served v f host now = hosts m f is host
comes-effect m (Remap w i k) is served v f host now = part-set (λ (x : Frame). x.share) m.frames k _ (untouched Core) refl f ∙ hosts m f is host
comes-effect m (Verify w) is served v f host now = verifies-share m w (unapproved m w) f ∙ hosts m f is host
comes-effect m (Map w c k) is served v f host now = part-set (λ (x : Frame). x.share) m.frames k _ (untouched Core) refl f ∙ hosts m f is host
comes-effect m (GuestRead w c h off len) is served v f host now = reads-share m w c h off len (mapped_at m w h) f ∙ hosts m f is host
comes-effect m (GuestWrite w c h off bytes) is served v f host now = writes-share m w c h off bytes (mapped_at m w h) f ∙ hosts m f is host
comes-effect m (Grant w c h) is served v f host now = absurd (no-coming m (effect m (Grant w c h)).1 v f (part-set (λ (x : Frame). x.owner) m.frames (backing (mapped_at m w h)) _ (untouched Core) refl f) host now)
comes-effect m (Revoke w c h) is served v f host now = absurd (no-coming m (effect m (Revoke w c h)).1 v f (part-set (λ (x : Frame). x.owner) m.frames (backing (mapped_at m w h)) _ (untouched Core) refl f) host now)
comes-effect m (GrantRange w c h n) is served v f host now = absurd (no-coming m (effect m (GrantRange w c h n)).1 v f (part-changed (λ x. x.owner) granted (λ x. refl) m.frames (frames_under (slot_at m w).mapped (range_with_len h n)) f) host now)
comes-effect m (RevokeRange w c h n) is served v f host now = absurd (no-coming m (effect m (RevokeRange w c h n)).1 v f (part-changed (λ x. x.owner) revoked (λ x. refl) m.frames (frames_under (slot_at m w).mapped (range_with_len h n)) f) host now)
comes-effect m (Drop w c h) is served v f host now = part-set (λ (x : Frame). x.share) m.frames (backing (mapped_at m w h)) _ (untouched Core) refl f ∙ hosts m f is host
comes-effect m (Clear w) is served v f host now = elim (after m w f is (vm-in m w (none-of (conditions m (Clear w)) served 0))) [
  | inl mine ↦ let was = mine.0 in absurd cc
  | inr theirs ↦ ap (λ (x : Frame). x.share) theirs.1 ∙ hosts m f is host
]

comes-unless : (refused : Option Refusal) (m : State) (call : Call) → IsLawful m → refusal m call ≡ refused → ComesUnshared m call (unless_refused refused m call).0 (unless_refused refused m call).1
comes-unless None m call is served = comes-effect m call is served
comes-unless (Some r) m call is served = λ v f host now. hosts m f is host

comes : (m : State) (call : Call) → IsLawful m → ComesUnshared m call (next m call).0 (next m call).1
unfolding next
comes m call is = comes-unless (refusal m call) m call is refl

pub shared : (m : State) (calls : List Call) → IsLawful m → IsShared m calls
shared m calls is = record { counted = every_step CountsGrants counts m calls is; comes = every_step ComesUnshared comes m calls is }
