-- A virtual processor's reads, writes, grants and revokes keep the state lawful.
use Rattle.std.proofs.Common.{ℕ, ◌≡◌, ◌<◌, ◌≤◌, ◌+◌, inl, inr, Bool, true, IsTrue, Option, None, Some, List, length, nat_eq, refl, sym, ap, subst, ◌∙◌, arith}
use Rattle.std.proofs.lemmas.Grind.{common_steps}
use Rattle.std.proofs.lemmas.Bool.{leb-false}
use Rattle.kc_types.specs.declared.refusal.Refusal.{Refusal}
use Rattle.kc_types.specs.declared.call.Call.TheVariants.{GuestRead, GuestWrite, Grant, Revoke}
use Rattle.kc_types.specs.declared.owner.Owner.TheVariants.{Vm}
use Rattle.kc_types.specs.declared.slot.Phase.TheVariants.{Active}
use Rattle.kc_model.specs.State.{State, Frame, frame_at, slot_at, vcpu_at, mapped_at, with_frame}
use Rattle.kc_model.specs.Refusals.{refusal, backing, guest_access, guest_frame, first_of_these}
use Rattle.kc_model.specs.Effects.{effect, guest_read, guest_written, written, revoked}
use Rattle.kc_model.specs.Lawful.{IsLawful, is_vm}
use Rattle.kc_model.proofs.Refusals.Served.{when-none, range-served, none-of}
use Rattle.kc_model.proofs.Refusals.Answered.{vm-in, vcpu-in, gfn-in, was-active, was-registered, was-mapped}
use Rattle.kc_model.proofs.States.Changes.{lawful-with_frame, exists, vm-same}
use Rattle.kc_model.proofs.Lawful.HostCalls.{lawful-written}
use Rattle.kc_model.proofs.Lawful.SlotCalls.{lawful-with_fault}
use Rattle.kc_types.specs.Configuration.{slot_count, vcpus_of, gfns_of}

-- a served call of a virtual processor on a guest frame
pub record IsGuestCall (m : State) (v c g : ℕ) : Type 0 where
  pub vm : v < slot_count m.config
  pub vcpu : c < vcpus_of m.config.version
  pub gfn : g < gfns_of m.config.version
  pub active : (slot_at m v).phase ≡ Active
  pub registered : (vcpu_at m v c).registered ≡ true

pub guest_access-served : (m : State) (v c g off len : ℕ) → first_of_these (guest_access m v c g off len) ≡ None → IsGuestCall m v c g × (off + len ≤ 4096)
guest_access-served m v c g off len served =
    let none = none-of (guest_access m v c g off len) served in (
      record {
        vm = vm-in m v (none 0);
        vcpu = vcpu-in m c (none 1);
        gfn = gfn-in m g (none 2);
        active = was-active m v (none 5);
        registered = was-registered m v c (none 6);
      },
      (range-served off len (when-none _ _ (none 3))).1,
    )

-- a served call of a virtual processor on a mapped guest frame
pub record IsMappedCall (m : State) (v c g : ℕ) : Type 0 where
  pub call : IsGuestCall m v c g
  pub mapped : mapped_at m v g ≡ Some (backing (mapped_at m v g))

pub guest_frame-served : (m : State) (v c g : ℕ) (last : Option Refusal) → first_of_these (guest_frame m v c g last) ≡ None → IsMappedCall m v c g × (last ≡ None)
guest_frame-served m v c g last served =
    let none = none-of (guest_frame m v c g last) served in (
      record {
        call = record {
          vm = vm-in m v (none 0);
          vcpu = vcpu-in m c (none 1);
          gfn = gfn-in m g (none 2);
          active = was-active m v (none 4);
          registered = was-registered m v c (none 5);
        };
        mapped = was-mapped m v g (none 6);
      },
      none 7,
    )

-- a mapped frame is the slot's, and exists
pub owner-mapped : (m : State) (v g f : ℕ) → IsLawful m → v < slot_count m.config → mapped_at m v g ≡ Some f → (frame_at m f).owner ≡ Vm v
owner-mapped m v g f is v_in e = ((is.mapped v g f v_in).0 e).0

pub exists-mapped : (m : State) (v g f : ℕ) → IsLawful m → v < slot_count m.config → mapped_at m v g ≡ Some f → f < length m.frames
exists-mapped m v g f is v_in e = let owner = owner-mapped m v g f is v_in e in exists m f (λ core. cc)

lawful-read : (m : State) (v c g off len : ℕ) (at : Option ℕ) → IsLawful m → IsGuestCall m v c g → IsLawful (guest_read m v c g off len at).1
lawful-read m v c g off len None is call = lawful-with_fault m v c (Some g) is call.vm call.vcpu call.active call.registered (λ h e. let same : g ≡ h = cc in let within = call.gfn in omega arith)
lawful-read m v c g off len (Some f) is call = lawful-with_fault m v c None is call.vm call.vcpu call.active call.registered (λ h e. absurd cc)

pub lawful-guest_read : (m : State) (v c g off len : ℕ) → IsLawful m → refusal m (GuestRead v c g off len) ≡ None → IsLawful (effect m (GuestRead v c g off len)).1
lawful-guest_read m v c g off len is served = lawful-read m v c g off len (mapped_at m v g) is (guest_access-served m v c g off len served).0

lawful-writes : (m : State) (v c g off : ℕ) (bytes : List ℕ) (at : Option ℕ) → mapped_at m v g ≡ at → off + length bytes ≤ 4096 → IsLawful m → IsGuestCall m v c g → IsLawful (guest_written m v c g off bytes at).1
lawful-writes m v c g off bytes None e within is call = lawful-with_fault m v c (Some g) is call.vm call.vcpu call.active call.registered (λ h e. let same : g ≡ h = cc in let within = call.gfn in omega arith)
lawful-writes m v c g off bytes (Some f) e within is call =
    let owner = owner-mapped m v g f is call.vm e in
    let lt = exists-mapped m v g f is call.vm e in
    lawful-with_fault (written m f off bytes) v c None (lawful-written m f off bytes is lt (λ free. cc) within) call.vm call.vcpu call.active call.registered (λ h e. absurd cc)

pub lawful-guest_write : (m : State) (v c g off : ℕ) (bytes : List ℕ) → IsLawful m → refusal m (GuestWrite v c g off bytes) ≡ None → IsLawful (effect m (GuestWrite v c g off bytes)).1
lawful-guest_write m v c g off bytes is served =
    let seen = guest_access-served m v c g off (length bytes) served in
    lawful-writes m v c g off bytes (mapped_at m v g) refl seen.1 is seen.0

-- a frame of an active slot with another share count
pub lawful-shared : (m : State) (v f share : ℕ) (present : Bool) → IsLawful m → v < slot_count m.config → (slot_at m v).phase ≡ Active → (frame_at m f).owner ≡ Vm v → share ≤ 100 → (IsTrue present → 0 < share) → IsLawful (with_frame m f (record (frame_at m f) { share = share; present = present }))
lawful-shared m v f share present is v_in active owner few reached =
    let lt = exists m f (λ core. cc) in
    let frame = is.each_frame f lt in
    let vm : is_vm (frame_at m f).owner ≡ true = ap is_vm owner in
    lawful-with_frame m f (record (frame_at m f) { share = share; present = present }) is lt refl refl (record {
      core = frame.core;
      mapped = frame.mapped;
      shared = few;
      sharer = λ h. vm;
      reached = λ h. inr (reached h);
      zeroed = frame.zeroed;
      page = frame.page;
      slot = frame.slot;
      gfn = frame.gfn;
    }) (λ w within owned some. let same : v ≡ w = vm-same v w (sym owner ∙ owned) in subst (λ x. (slot_at m x).phase ≡ Active) same active)

pub lawful-grant : (m : State) (v c g : ℕ) → IsLawful m → refusal m (Grant v c g) ≡ None → IsLawful (effect m (Grant v c g)).1
lawful-grant m v c g is served =
    let seen = guest_frame-served m v c g _ served in
    let f = backing (mapped_at m v g) in
    let owner = owner-mapped m v g f is seen.0.call.vm seen.0.mapped in
    let below : (frame_at m f).share < 100 = leb-false _ _ (when-none _ _ seen.1) in
    lawful-shared m v f ((frame_at m f).share + 1) (frame_at m f).present is seen.0.call.vm seen.0.call.active owner (omega arith) (λ h. omega arith)

-- whatever a revoke leaves of a share, a frame that the host reaches is still shared
lowered : (frame : Frame) → (IsTrue frame.present → 0 < frame.share) → IsTrue (revoked frame).present → 0 < (revoked frame).share
lowered frame was h = by-test (nat_eq frame.share 1) refl h
  where
    by-test : (b : Bool) → nat_eq frame.share 1 ≡ b → IsTrue (revoked frame).present → 0 < (revoked frame).share
    by-test b e t = grind (arith, common_steps, was, e, t)

-- a frame of an active slot with one grant less
pub lawful-revoked : (m : State) (v f : ℕ) → IsLawful m → v < slot_count m.config → (slot_at m v).phase ≡ Active → (frame_at m f).owner ≡ Vm v → IsLawful (with_frame m f (revoked (frame_at m f)))
lawful-revoked m v f is v_in active owner =
    let frame = is.each_frame f (exists m f (λ core. cc)) in
    let few = frame.shared in
    let some : IsTrue (frame_at m f).present → 0 < (frame_at m f).share = λ h. elim (frame.reached h) [ inl host ↦ absurd cc | inr some ↦ some ] in
    lawful-shared m v f (revoked (frame_at m f)).share (revoked (frame_at m f)).present is v_in active owner (omega (arith, few)) (lowered (frame_at m f) some)

pub lawful-revoke : (m : State) (v c g : ℕ) → IsLawful m → refusal m (Revoke v c g) ≡ None → IsLawful (effect m (Revoke v c g)).1
lawful-revoke m v c g is served =
    let seen = guest_frame-served m v c g _ served in
    let f = backing (mapped_at m v g) in
    lawful-revoked m v f is seen.0.call.vm seen.0.call.active (owner-mapped m v g f is seen.0.call.vm seen.0.mapped)
