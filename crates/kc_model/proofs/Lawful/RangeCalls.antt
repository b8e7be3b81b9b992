-- A virtual processor's grants and revokes of the guest frames of a range keep the state lawful.
use Rattle.std.proofs.Common.{ℕ, zero, suc, ◌≡◌, ◌<◌, ◌≤◌, ◌+◌, Option, None, Some, nat_eq, nat_le, nat_lt, sym, subst, arith}
use Rattle.std.specs.List.{range_with_len}
use Rattle.std.proofs.lemmas.Grind.{common_steps}
use Rattle.std.proofs.lemmas.Bool.{leb-false, or_parts}
use Rattle.kc_types.specs.Configuration.{slot_count, gfns_of}
use Rattle.kc_types.specs.declared.refusal.Refusal.{Refusal}
use Rattle.kc_types.specs.declared.call.Call.TheVariants.{GrantRange, RevokeRange}
use Rattle.kc_types.specs.declared.owner.Owner.TheVariants.{Vm}
use Rattle.kc_types.specs.declared.slot.Phase.TheVariants.{Active}
use Rattle.kc_model.specs.State.{State, Frame, frame_at, slot_at, mapped_at, with_frame}
use Rattle.kc_model.specs.Refusals.{refusal, backing, share_at, first_of_these, guest_range}
use Rattle.kc_model.specs.Effects.{effect, with_each, granted, revoked}
use Rattle.kc_model.specs.Lawful.{IsLawful}
use Rattle.kc_model.proofs.Refusals.Served.{when-none, none-of}
use Rattle.kc_model.proofs.Refusals.Answered.{vm-in, vcpu-in, was-active, was-registered, backing-is}
use Rattle.kc_model.proofs.States.Lists.{changed-other}
use Rattle.kc_model.proofs.Lawful.GuestCalls.{IsGuestCall, owner-mapped, lawful-shared, lawful-revoked}
use Rattle.kc_model.proofs.States.Each.{none-in}

-- a served call of a virtual processor on the guest frames of a range, all of which are mapped
pub record IsRangeCall (m : State) (v c g n : ℕ) : Type 0 where
  pub call : IsGuestCall m v c g
  pub some : 0 < n
  pub few : n ≤ 64
  pub within : g + n ≤ gfns_of m.config.version
  pub mapped : (h : ℕ) → g ≤ h → h < g + n → mapped_at m v h ≡ Some (backing (mapped_at m v h))

pub guest_range-served : (m : State) (v c g n : ℕ) (last : Option Refusal) → first_of_these (guest_range m v c g n last) ≡ None → IsRangeCall m v c g n × (last ≡ None)
guest_range-served m v c g n last served =
    let none = none-of (guest_range m v c g n last) served in
    let gfns = or_parts (nat_le (gfns_of m.config.version) g) (nat_lt (gfns_of m.config.version) (g + n)) (when-none _ _ (none 2)) in
    let count = or_parts (nat_eq n 0) (nat_lt 64 n) (when-none _ _ (none 3)) in (
      record {
        call = record {
          vm = vm-in m v (none 0);
          vcpu = vcpu-in m c (none 1);
          gfn = leb-false _ _ gfns.0;
          active = was-active m v (none 5);
          registered = was-registered m v c (none 6);
        };
        some = grind (arith, common_steps, count.0);
        few = grind (arith, common_steps, count.1);
        within = grind (arith, common_steps, gfns.1);
        mapped = λ h low high. backing-is (mapped_at m v h) (none-in _ g n h (when-none _ _ (none 7)) low high);
      },
      none 8,
    )

-- two guest frames lead to two frames
pub apart : (m : State) (v g h f k : ℕ) → IsLawful m → v < slot_count m.config → mapped_at m v g ≡ Some f → mapped_at m v h ≡ Some k → (h ≡ g → ⊥) → k ≡ f → ⊥
apart m v g h f k is v_in first second ne same =
    let one : (frame_at m f).gfn ≡ Some g = ((is.mapped v g f v_in).0 first).1 in
    let other : (frame_at m f).gfn ≡ Some h = subst (λ x. (frame_at m x).gfn ≡ Some h) same ((is.mapped v h k v_in).0 second).1 in
    let both : h ≡ g = cc in
    ne both

-- frames are changed one after another, and each change of a frame that fits keeps the state lawful
module _ (v : ℕ) (change : Frame → Frame) (Fits : Frame → Type 0)
    (step : (m : State) (f : ℕ) → IsLawful m → v < slot_count m.config → (slot_at m v).phase ≡ Active → (frame_at m f).owner ≡ Vm v → Fits (frame_at m f) → IsLawful (with_frame m f (change (frame_at m f)))) where
  lawful-each : (m : State) (g n : ℕ) → IsLawful m → v < slot_count m.config → (slot_at m v).phase ≡ Active
      → ((h : ℕ) → g ≤ h → h < g + n → (mapped_at m v h ≡ Some (backing (mapped_at m v h))) × Fits (frame_at m (backing (mapped_at m v h)))) → IsLawful (with_each m v (range_with_len g n) change)
  lawful-each m g zero is v_in active each = is
  lawful-each m g (suc n) is v_in active each =
      let f = backing (mapped_at m v g) in
      let first = each g (omega arith) (omega arith) in
      lawful-each (with_frame m f (change (frame_at m f))) (g + 1) n (step m f is v_in active (owner-mapped m v g f is v_in first.0) first.1) v_in active (λ h low high.
      let later = each h (omega (arith, low)) (omega (arith, high)) in
      let other = apart m v g h f (backing (mapped_at m v h)) is v_in first.0 later.0 (λ same. omega (arith, low, same)) in
      (later.0, subst Fits (sym (changed-other m f (change (frame_at m f)) (backing (mapped_at m v h)) other)) later.1))

pub lawful-grant_range : (m : State) (v c g n : ℕ) → IsLawful m → refusal m (GrantRange v c g n) ≡ None → IsLawful (effect m (GrantRange v c g n)).1
lawful-grant_range m v c g n is served =
    let seen = guest_range-served m v c g n _ served in
    lawful-each v granted (λ frame. frame.share < 100) step m g n is seen.0.call.vm seen.0.call.active (λ h low high. (seen.0.mapped h low high, leb-false _ _ (none-in (λ h. nat_le 100 (share_at m v h)) g n h (when-none _ _ seen.1) low high)))
  where
    step : (m : State) (f : ℕ) → IsLawful m → v < slot_count m.config → (slot_at m v).phase ≡ Active → (frame_at m f).owner ≡ Vm v → (frame_at m f).share < 100 → IsLawful (with_frame m f (granted (frame_at m f)))
    step m f is v_in active owner below = lawful-shared m v f ((frame_at m f).share + 1) (frame_at m f).present is v_in active owner (omega (arith, below)) (λ h. omega arith)

pub lawful-revoke_range : (m : State) (v c g n : ℕ) → IsLawful m → refusal m (RevokeRange v c g n) ≡ None → IsLawful (effect m (RevokeRange v c g n)).1
lawful-revoke_range m v c g n is served =
    let seen = guest_range-served m v c g n _ served in
    lawful-each v revoked (λ frame. Unit {0}) step m g n is seen.0.call.vm seen.0.call.active (λ h low high. (seen.0.mapped h low high, tt))
  where
    step : (m : State) (f : ℕ) → IsLawful m → v < slot_count m.config → (slot_at m v).phase ≡ Active → (frame_at m f).owner ≡ Vm v → Unit {0} → IsLawful (with_frame m f (revoked (frame_at m f)))
    step m f is v_in active owner fits = lawful-revoked m v f is v_in active owner
