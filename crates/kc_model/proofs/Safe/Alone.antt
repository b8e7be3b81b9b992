-- A call that does not name a VM leaves it alone.
use Rattle.std.proofs.Common.{ℕ, zero, suc, ◌≡◌, ◌≢◌, ◌<◌, ◌≤◌, ◌+◌, inl, inr, length, get_or, set, List, [], ◌∷◌, refl, sym, ap, subst, ◌∙◌, Option, None, Some, arith, All, get_or-set_other}
use Rattle.std.specs.List.{range_with_len}
use Rattle.std.specs.FinMap as map
use Rattle.std.specs.Ordering.{nat_cmp}
use Rattle.kc_types.specs.Configuration.{slot_count}
use Rattle.kc_types.specs.declared.call.Call.{Call}
use Rattle.kc_types.specs.declared.call.Call.TheVariants.{Take, Give, HostFault, HostRead, HostWrite, RegisterVm, RegisterVcpu, SetBoot, Remap, Verify, Map, GuestRead, GuestWrite, Grant, Revoke, GrantRange, RevokeRange, Drop, Clear}
use Rattle.kc_types.specs.declared.refusal.Refusal.{Refusal}
use Rattle.kc_types.specs.declared.owner.Owner.TheVariants.{Core, Host, Free, Vm}
use Rattle.kc_types.specs.Slots.{slot_of}
use Rattle.kc_model.specs.State.{State, Frame, Image, Slot, frame_at, slot_at, mapped_at, untouched, no_slot}
use Rattle.kc_model.specs.Refusals.{refusal, backing, conditions, next_gfn, pending}
use Rattle.kc_model.specs.Effects.{effect, host_takes, hand, freed, guest_read, guest_written, trimmed, all_trimmed, verified, unapproved, frames_under, changed_each, granted, revoked}
use Rattle.kc_model.specs.Next.{next, unless_refused}
use Rattle.kc_model.specs.Lawful.{IsLawful}
use Rattle.kc_model.specs.Passing.{IsLeftAlone, LeavesAlone, CountsAll, IsPassedOn}
use Rattle.kc_model.proofs.States.Lists.{changed-other}
use Rattle.kc_model.proofs.States.Changes.{slot-elsewhere, vm-same}
use Rattle.kc_model.proofs.Refusals.Served.{none-of, host_fault-served, host_access-served}
use Rattle.kc_model.proofs.Refusals.Answered.{vm-in, was-host}
use Rattle.kc_model.proofs.Lawful.Moves.{first_free}
use Rattle.kc_model.proofs.Lawful.GuestCalls.{guest_access-served, guest_frame-served, owner-mapped}
use Rattle.kc_model.proofs.Lawful.RangeCalls.{guest_range-served}
use Rattle.kc_model.proofs.Lawful.Verifies.{HasLastPage, last_gfn, lawful-trimmed, each_last_page, verify-served, slots-trimmed}
use Rattle.kc_model.proofs.Lawful.Clears.{kept-frame, slot-kept}
use Rattle.kc_model.proofs.Lawful.Keeps.{lawful-next}
use Rattle.kc_model.proofs.States.Counts.{counts-all}
use Rattle.kc_model.proofs.Safe.Safe.{every_step}
use Rattle.kc_model.proofs.Safe.Passing.{passed}

not-host : (m : State) (v f k : ℕ) → (frame_at m f).owner ≡ Vm v → (frame_at m k).owner ≡ Host → f ≡ k → ⊥
not-host m v f k mine host same = let h : (frame_at m k).owner ≡ Vm v = subst (λ x. (frame_at m x).owner ≡ Vm v) same mine in cc

not-free : (m : State) (v f k : ℕ) → (frame_at m f).owner ≡ Vm v → (frame_at m k).owner ≡ Free → f ≡ k → ⊥
not-free m v f k mine free same = let h : (frame_at m k).owner ≡ Vm v = subst (λ x. (frame_at m x).owner ≡ Vm v) same mine in cc

not-shared : (m : State) (f k : ℕ) → (frame_at m f).share ≡ 0 → 0 < (frame_at m k).share → f ≡ k → ⊥
not-shared m f k private shared same = let h : (frame_at m k).share ≡ 0 = subst (λ x. (frame_at m x).share ≡ 0) same private in omega (arith, h, shared)

pub not-theirs : (m : State) (v w f k : ℕ) → (frame_at m f).owner ≡ Vm v → (frame_at m k).owner ≡ Vm w → (w ≡ v → ⊥) → f ≡ k → ⊥
not-theirs m v w f k mine theirs differ same = differ (vm-same w v (sym theirs ∙ subst (λ x. (frame_at m x).owner ≡ Vm v) same mine))

-- the frame is not the one that the host marks or writes
abbrev pub IsAway : Call → ℕ → Type 0
IsAway (HostFault k) f = f ≡ k → ⊥
IsAway (HostWrite k off bytes) f = f ≡ k → ⊥
IsAway _ f = Unit {0}

-- the slot is as it was, and so is each of its frames that is away from something
pub record IsLeft (Away : ℕ → Type 0) (old new : State) (v : ℕ) : Type 0 where
  pub slot : slot_at new v ≡ slot_at old v
  pub frames : (f : ℕ) → (frame_at old f).owner ≡ Vm v → Away f → frame_at new f ≡ frame_at old f

-- no slot changes, and one frame does that is not the VM's
one : {Away : ℕ → Type 0} (m new : State) (v : ℕ) → slot_at new v ≡ slot_at m v → ((f : ℕ) → (frame_at m f).owner ≡ Vm v → Away f → frame_at new f ≡ frame_at m f) → IsLeft Away m new v
one m new v slot frames = record { slot = slot; frames = frames }

takes : {Away : ℕ → Type 0} (m : State) (free : List ℕ) (v : ℕ) → IsLawful m → m.free ≡ free → IsLeft Away m (host_takes m free).1 v
takes m [] v is e = one m _ v refl (λ f mine private. refl)
takes m (k ∷ rest) v is e = one m _ v refl (λ f mine private. changed-other m k _ f (not-free m v f k mine (first_free m k rest is e).0))

reads : {Away : ℕ → Type 0} (m : State) (w c g off len : ℕ) (at : Option ℕ) (v : ℕ) → (v ≡ w → ⊥) → IsLeft Away m (guest_read m w c g off len at).1 v
reads m w c g off len None v ne = one m _ v (slot-elsewhere m w _ v ne) (λ f mine private. refl)
reads m w c g off len (Some k) v ne = one m _ v (slot-elsewhere m w _ v ne) (λ f mine private. refl)

writes : {Away : ℕ → Type 0} (m : State) (w c g off : ℕ) (bytes : List ℕ) (at : Option ℕ) (v : ℕ) → IsLawful m → w < slot_count m.config → mapped_at m w g ≡ at → (w ≡ v → ⊥) → (v ≡ w → ⊥) → IsLeft Away m (guest_written m w c g off bytes at).1 v
writes m w c g off bytes None v is lt e differ ne = one m _ v (slot-elsewhere m w _ v ne) (λ f mine private. refl)
writes m w c g off bytes (Some k) v is lt e differ ne = one m _ v (slot-elsewhere m w _ v ne) (λ f mine private. changed-other m k _ f (not-theirs m v w f k mine (owner-mapped m w g k is lt e) differ))

frames-trimmed : (m : State) (w : ℕ) (images : List Image) (v f : ℕ) → IsLawful m → w < slot_count m.config → All (HasLastPage m w) images → (frame_at m f).owner ≡ Vm v → (w ≡ v → ⊥) → frame_at (all_trimmed m w images) f ≡ frame_at m f
frames-trimmed m w [] v f is lt mapped mine differ = refl
frames-trimmed m w (image ∷ images) v f is lt mapped mine differ =
    let k = backing (mapped_at m w (last_gfn image)) in
    let theirs = owner-mapped m w (last_gfn image) k is lt (mapped zero image (omega arith)) in
    let apart = not-theirs m v w f k mine theirs differ in
    let still : (frame_at (trimmed m w image) f).owner ≡ Vm v = ap (λ (x : Frame). x.owner) (changed-other m k _ f apart) ∙ mine in
    frames-trimmed (trimmed m w image) w images v f (lawful-trimmed m w image is lt (mapped zero image (omega arith))) lt (λ n d low. mapped (suc n) d (omega arith)) still differ
    ∙ changed-other m k _ f apart

verifies : {Away : ℕ → Type 0} (m : State) (w : ℕ) (first : Option ℕ) (v : ℕ) → IsLawful m → refusal m (Verify w) ≡ None → (w ≡ v → ⊥) → (v ≡ w → ⊥) → IsLeft Away m (verified m w first).1 v
verifies m w None v is served differ ne =
    let seen = verify-served m w served in
    one m _ v
    (slot-elsewhere (all_trimmed m w (slot_at m w).images) w _ v ne ∙ ap (λ (slots : List Slot). get_or slots v no_slot) (slots-trimmed m w (slot_at m w).images))
    (λ f mine private. frames-trimmed m w (slot_at m w).images v f is seen.0 (each_last_page m w is seen.0 seen.1 seen.2) mine differ)
verifies m w (Some i) v is served differ ne = one m _ v (slot-elsewhere m w _ v ne) (λ f mine private. refl)

-- the frames at the guest frames of a range, none of which is this frame
pub each-kept : (change : Frame → Frame) (mapped : map.FinMap nat_cmp ℕ) (frames : List Frame) (g n f : ℕ) → ((h : ℕ) → g ≤ h → h < g + n → f ≡ backing (map.get mapped h) → ⊥)
    → get_or (changed_each change frames (frames_under mapped (range_with_len g n))) f (untouched Core) ≡ get_or frames f (untouched Core)
each-kept change mapped frames g zero f away = refl
each-kept change mapped frames g (suc n) f away =
    let k = backing (map.get mapped g) in
    each-kept change mapped (set frames k (change (get_or frames k (untouched Core)))) (g + 1) n f (λ h low high. away h (omega (arith, low)) (omega (arith, high)))
    ∙ get_or-set_other frames k f _ (untouched Core) (away g (omega arith) (omega arith))

pub left-effect : (m : State) (call : Call) (v : ℕ) → IsLawful m → refusal m call ≡ None → (slot_of call ≢ Some v) → IsLeft (IsAway call) m (effect m call).1 v
left-effect m Take v is served others = takes m m.free v is refl
left-effect m (Give k) v is served others =
    let host = was-host m k (none-of (conditions m (Give k)) served 1) in
    one m _ v refl (λ f mine private. changed-other m k _ f (not-host m v f k mine host))
left-effect m (HostFault k) v is served others = one m _ v refl (λ f mine away. changed-other m k _ f away)
left-effect m (HostRead k off len) v is served others = one m _ v refl (λ f mine private. refl)
left-effect m (HostWrite k off bytes) v is served others = one m _ v refl (λ f mine away. changed-other m k _ f away)
left-effect m (RegisterVm w) v is served others = one m _ v (slot-elsewhere m w _ v (λ e. others (ap Some (sym e)))) (λ f mine private. refl)
left-effect m (RegisterVcpu w c) v is served others = one m _ v (slot-elsewhere m w _ v (λ e. others (ap Some (sym e)))) (λ f mine private. refl)
left-effect m (SetBoot w base len) v is served others = one m _ v (slot-elsewhere m w _ v (λ e. others (ap Some (sym e)))) (λ f mine private. refl)
left-effect m (Remap w i k) v is served others =
    let ne : v ≡ w → ⊥ = λ e. others (ap Some (sym e)) in
    let host = was-host m k (none-of (conditions m (Remap w i k)) served 6) in
    one m _ v (slot-elsewhere (hand m w (next_gfn m w i) k) w _ v ne ∙ slot-elsewhere m w _ v ne) (λ f mine private. changed-other m k _ f (not-host m v f k mine host))
left-effect m (Verify w) v is served others = verifies m w (unapproved m w) v is served (λ e. others (ap Some e)) (λ e. others (ap Some (sym e)))
left-effect m (Map w c k) v is served others =
    let ne : v ≡ w → ⊥ = λ e. others (ap Some (sym e)) in
    let host = was-host m k (none-of (conditions m (Map w c k)) served 8) in
    one m _ v (slot-elsewhere (hand m w (pending m w c) k) w _ v ne ∙ slot-elsewhere m w _ v ne) (λ f mine private. changed-other m k _ f (not-host m v f k mine host))
left-effect m (GuestRead w c g off len) v is served others = reads m w c g off len (mapped_at m w g) v (λ e. others (ap Some (sym e)))
left-effect m (GuestWrite w c g off bytes) v is served others =
    writes m w c g off bytes (mapped_at m w g) v is (guest_access-served m w c g off (length bytes) served).0.vm refl (λ e. others (ap Some e)) (λ e. others (ap Some (sym e)))
left-effect m (Grant w c g) v is served others =
    let seen = guest_frame-served m w c g _ served in
    let k = backing (mapped_at m w g) in
    one m _ v refl (λ f mine private. changed-other m k _ f (not-theirs m v w f k mine (owner-mapped m w g k is seen.0.call.vm seen.0.mapped) (λ e. others (ap Some e))))
left-effect m (Revoke w c g) v is served others =
    let seen = guest_frame-served m w c g _ served in
    let k = backing (mapped_at m w g) in
    one m _ v refl (λ f mine private. changed-other m k _ f (not-theirs m v w f k mine (owner-mapped m w g k is seen.0.call.vm seen.0.mapped) (λ e. others (ap Some e))))
left-effect m (GrantRange w c g n) v is served others =
    let seen = guest_range-served m w c g n _ served in
    one m _ v refl (λ f mine private. each-kept granted (slot_at m w).mapped m.frames g n f (λ h low high. not-theirs m v w f (backing (mapped_at m w h)) mine (owner-mapped m w h (backing (mapped_at m w h)) is seen.0.call.vm (seen.0.mapped h low high)) (λ e. others (ap Some e))))
left-effect m (RevokeRange w c g n) v is served others =
    let seen = guest_range-served m w c g n _ served in
    one m _ v refl (λ f mine private. each-kept revoked (slot_at m w).mapped m.frames g n f (λ h low high. not-theirs m v w f (backing (mapped_at m w h)) mine (owner-mapped m w h (backing (mapped_at m w h)) is seen.0.call.vm (seen.0.mapped h low high)) (λ e. others (ap Some e))))
left-effect m (Drop w c g) v is served others =
    let seen = guest_frame-served m w c g _ served in
    let k = backing (mapped_at m w g) in
    one m _ v (slot-elsewhere (freed m k) w _ v (λ e. others (ap Some (sym e))))
    (λ f mine private. changed-other m k _ f (not-theirs m v w f k mine (owner-mapped m w g k is seen.0.call.vm seen.0.mapped) (λ e. others (ap Some e))))
left-effect m (Clear w) v is served others =
    let lt = vm-in m w (none-of (conditions m (Clear w)) served 0) in
    one m _ v (slot-kept m w v (λ e. others (ap Some (sym e)))) (λ f mine private. kept-frame m w f is lt (λ theirs. others (ap Some (vm-same w v (sym theirs ∙ mine)))))

-- a frame that is not shared is away from what the host may mark and write
away : (m : State) (call : Call) (v f : ℕ) → IsLawful m → refusal m call ≡ None → (frame_at m f).owner ≡ Vm v → (frame_at m f).share ≡ 0 → IsAway call f
away m (HostFault k) v f is served mine private = λ same. elim (host_fault-served m k served).1 [
  | inl host ↦ not-host m v f k mine host same
  | inr shared ↦ not-shared m f k private shared same
]
away m (HostWrite k off bytes) v f is served mine private =
    let seen = host_access-served m k off (length bytes) served in
    let lt : k < length m.frames = rw is.frames seen.frame in
    λ same. elim ((is.each_frame k lt).reached seen.present) [
      | inl host ↦ not-host m v f k mine host same
      | inr shared ↦ not-shared m f k private shared same
    ]
away m _ v f is served mine private = tt

alone-effect : (m : State) (call : Call) (v : ℕ) → IsLawful m → refusal m call ≡ None → (slot_of call ≢ Some v) → IsLeftAlone m (effect m call).1 v
alone-effect m call v is served others =
    let left = left-effect m call v is served others in
    record { slot = left.slot; frames = λ f mine private. left.frames f mine (away m call v f is served mine private) }

alone-unless : (refused : Option Refusal) (m : State) (call : Call) → IsLawful m → refusal m call ≡ refused → LeavesAlone m call (unless_refused refused m call).0 (unless_refused refused m call).1
alone-unless None m call is served = λ v others. alone-effect m call v is served others
alone-unless (Some r) m call is served = λ v others. record { slot = refl; frames = λ f mine private. refl }

pub alone : (m : State) (call : Call) → IsLawful m → LeavesAlone m call (next m call).0 (next m call).1
unfolding next
alone m call is = alone-unless (refusal m call) m call is refl

pub passed_on : (m : State) (calls : List Call) → IsLawful m → IsPassedOn m calls
passed_on m calls is = record {
  passes = passed m calls is;
  alone = every_step LeavesAlone alone m calls is;
  counted = every_step CountsAll (λ old call is. counts-all (next old call).1 (lawful-next old call is)) m calls is;
}
