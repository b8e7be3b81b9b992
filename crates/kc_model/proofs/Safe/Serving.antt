-- Every trace from a lawful state serves active VMs alone, and these may take back what they share.
use Rattle.std.proofs.Common.{set, ℕ, ◌≡◌, ◌<◌, ◌-◌, true, false, nat_eq, nat_le, nat_lt, List, refl, sym, ap, subst, Option, None, Some, arith, get_or-set_same}
use Rattle.std.proofs.lemmas.Grind.{common_steps}
use Rattle.kc_types.specs.Configuration.{slot_count, vcpus_of, gfns_of}
use Rattle.kc_types.specs.Actors.{actor}
use Rattle.kc_types.specs.declared.call.Actor.TheVariants.{Vcpu}
use Rattle.kc_types.specs.declared.call.Call.{Call}
use Rattle.kc_types.specs.declared.call.Call.TheVariants.{GuestRead, GuestWrite, Grant, Revoke, GrantRange, RevokeRange, Drop}
use Rattle.kc_types.specs.declared.reply.Reply.TheVariants as reply
use Rattle.kc_types.specs.declared.refusal.Refusal.{Refusal}
use Rattle.kc_model.specs.State.{State, Frame, frame_at, slot_at, vcpu_at, mapped_at, untouched}
use Rattle.kc_model.specs.Refusals.{refusal, backing, share_at, is_active, is_empty}
use Rattle.kc_model.specs.Effects.{effect, revoked}
use Rattle.kc_model.specs.Next.{next, unless_refused}
use Rattle.kc_model.specs.Lawful.{IsLawful}
use Rattle.kc_model.specs.Safety.{IsActive}
use Rattle.kc_model.specs.Serving.{ServesActive, MayAsk, ServesOwner, TakesBack, IsServing}
use Rattle.kc_types.specs.declared.owner.Owner.TheVariants.{Core}
use Rattle.kc_model.proofs.Refusals.Served.{when-none}
use Rattle.kc_model.proofs.Lawful.GuestCalls.{guest_access-served, guest_frame-served, exists-mapped}
use Rattle.kc_model.proofs.Lawful.RangeCalls.{guest_range-served}
use Rattle.kc_model.proofs.Safe.Safe.{every_step}
use Rattle.kc_model.proofs.Safe.Available.{slot-exists}
use Rattle.kc_model.proofs.States.Slots.{registered-within}

asks : (m : State) (call : Call) (v c : ℕ) → refusal m call ≡ None → actor call ≡ Vcpu v c → IsActive m v × ((vcpu_at m v c).registered ≡ true)
asks m (GuestRead w d g off len) v c served same = let seen = (guest_access-served m w d g off len served).0 in let a = seen.active in let b = seen.registered in (cc, cc)
asks m (GuestWrite w d g off bytes) v c served same = let seen = (guest_access-served m w d g off _ served).0 in let a = seen.active in let b = seen.registered in (cc, cc)
asks m (Grant w d g) v c served same = let seen = (guest_frame-served m w d g _ served).0.call in let a = seen.active in let b = seen.registered in (cc, cc)
asks m (Revoke w d g) v c served same = let seen = (guest_frame-served m w d g _ served).0.call in let a = seen.active in let b = seen.registered in (cc, cc)
asks m (GrantRange w d g n) v c served same = let seen = (guest_range-served m w d g n _ served).0.call in let a = seen.active in let b = seen.registered in (cc, cc)
asks m (RevokeRange w d g n) v c served same = let seen = (guest_range-served m w d g n _ served).0.call in let a = seen.active in let b = seen.registered in (cc, cc)
asks m (Drop w d g) v c served same = let seen = (guest_frame-served m w d g _ served).0.call in let a = seen.active in let b = seen.registered in (cc, cc)
asks m _ v c served same = absurd cc

active-unless : (refused : Option Refusal) (m : State) (call : Call) → refusal m call ≡ refused → ServesActive m call (unless_refused refused m call).0 (unless_refused refused m call).1
active-unless None m call served = λ v c same is_served. asks m call v c served same
active-unless (Some r) m call served = λ v c same is_served. absurd is_served

serves-active : (m : State) (call : Call) → IsLawful m → ServesActive m call (next m call).0 (next m call).1
unfolding next
serves-active m call is = active-unless (refusal m call) m call refl

back-effect : (m : State) (call : Call) → IsLawful m → refusal m call ≡ None → TakesBack m call (effect m call).0 (effect m call).1
back-effect m (Revoke v c g) is served = λ f mapped.
    let seen = guest_frame-served m v c g _ served in
    let at : backing (mapped_at m v g) ≡ f = ap backing mapped in
    let lt = exists-mapped m v g f is seen.0.call.vm mapped in
    let some = when-none _ _ seen.1 in
    let now : (frame_at (effect m (Revoke v c g)).1 f).share ≡ (frame_at m f).share - 1 =
    subst (λ k. (frame_at (record m { frames = set m.frames k (revoked (frame_at m k)) }) f).share ≡ (frame_at m f).share - 1) (sym at) (ap (λ (x : Frame). x.share) (get_or-set_same m.frames f (revoked (frame_at m f)) (untouched Core) lt)) in
    let above : nat_eq (frame_at m f).share 0 ≡ false = subst (λ k. nat_eq (frame_at m k).share 0 ≡ false) at some in
    grind (arith, common_steps, now, above)
back-effect m _ is served = tt

back-refused : (m : State) (call : Call) (r : Refusal) (new : State) → TakesBack m call (reply.Refused r) new
back-refused m (Revoke v c g) r new = tt
back-refused m _ r new = tt

back-unless : (refused : Option Refusal) (m : State) (call : Call) → IsLawful m → refusal m call ≡ refused → TakesBack m call (unless_refused refused m call).0 (unless_refused refused m call).1
back-unless None m call is served = back-effect m call is served
back-unless (Some r) m call is served = back-refused m call r m

takes-back : (m : State) (call : Call) → IsLawful m → TakesBack m call (next m call).0 (next m call).1
unfolding next
takes-back m call is = back-unless (refusal m call) m call is refl

below : (n k : ℕ) → n < k → nat_le k n ≡ false
below n k lt = grind (arith, common_steps, lt)

-- what such a call needs
record IsAsked (m : State) (v c g : ℕ) : Type 0 where
  vm : nat_le (slot_count m.config) v ≡ false
  vcpu : nat_le (vcpus_of m.config.version) c ≡ false
  gfn : nat_le (gfns_of m.config.version) g ≡ false
  there : is_empty (slot_at m v).phase ≡ false
  active : is_active (slot_at m v).phase ≡ true

asked : (m : State) (v c g f : ℕ) → IsLawful m → MayAsk m v c g f → IsAsked m v c g
asked m v c g f is may =
    let here = may.active in
    let v_in = slot-exists m v is (λ empty. cc) in
    let slot = is.each_slot v v_in in
    let c_in : c < vcpus_of m.config.version = rw (← slot.vcpus) (registered-within (slot_at m v).vcpus c may.registered) in
    let owner = (is.mapped v g f v_in).0 may.mapped in
    let lt = exists-mapped m v g f is v_in may.mapped in
    record {
      vm = below v (slot_count m.config) v_in;
      vcpu = below c (vcpus_of m.config.version) c_in;
      gfn = below g (gfns_of m.config.version) ((is.each_frame f lt).gfn g owner.1);
      there = ap is_empty here;
      active = ap is_active here;
    }

revoke-served : (m : State) (v c g f : ℕ) → IsLawful m → MayAsk m v c g f → 0 < (frame_at m f).share → refusal m (Revoke v c g) ≡ None
revoke-served m v c g f is may some =
    let a = asked m v c g f is may in
    let share : nat_eq (frame_at m f).share 0 ≡ false = grind (arith, common_steps, some) in
    let here : nat_eq (share_at m v g) 0 ≡ false = subst (λ k. nat_eq (frame_at m k).share 0 ≡ false) (sym (ap backing may.mapped)) share in
    rw (a.vm, a.vcpu, a.gfn, a.there, a.active, may.registered, here, may.mapped) refl

drop-served : (m : State) (v c g f : ℕ) → IsLawful m → MayAsk m v c g f → (frame_at m f).share ≡ 0 → refusal m (Drop v c g) ≡ None
drop-served m v c g f is may none =
    let a = asked m v c g f is may in
    let share : nat_lt 0 (frame_at m f).share ≡ false = grind (arith, common_steps, none) in
    let here : nat_lt 0 (share_at m v g) ≡ false = subst (λ k. nat_lt 0 (frame_at m k).share ≡ false) (sym (ap backing may.mapped)) share in
    rw (a.vm, a.vcpu, a.gfn, a.there, a.active, may.registered, here, may.mapped) refl

done : (m : State) (call : Call) → refusal m call ≡ None → (next m call).0 ≡ (effect m call).0
unfolding next
done m call served = ap (λ (r : Option Refusal). (unless_refused r m call).0) served

serves-owner : (m : State) (call : Call) → IsLawful m → ServesOwner m call (next m call).0 (next m call).1
serves-owner m (Revoke v c g) is = λ f may some. done m (Revoke v c g) (revoke-served m v c g f is may some)
serves-owner m (Drop v c g) is = λ f may none. done m (Drop v c g) (drop-served m v c g f is may none)
serves-owner m _ is = tt

pub serving : (m : State) (calls : List Call) → IsLawful m → IsServing m calls
serving m calls is = record {
  active = every_step ServesActive serves-active m calls is;
  owner = every_step ServesOwner serves-owner m calls is;
  back = every_step TakesBack takes-back m calls is;
}
