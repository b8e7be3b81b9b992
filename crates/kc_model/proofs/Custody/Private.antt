-- Through calls without a change of a VM's frame that is not shared, its bytes stay the VM's own.
use Rattle.std.proofs.Common.{ℕ, suc, ◌≡◌, ◌<◌, ◌+◌, inl, inr, false, List, [], ◌∷◌, length, Option, None, Some, refl, ap, subst, ◌∙◌, arith}
use Rattle.std.proofs.lemmas.Bool.{cases_eq}
use Rattle.kc_types.specs.declared.refusal.Refusal.{Refusal}
use Rattle.kc_types.specs.declared.owner.Owner.{Owner}
use Rattle.kc_types.specs.declared.owner.Owner.TheVariants.{Host, Free, Vm}
use Rattle.kc_types.specs.declared.reply.Reply.{Reply}
use Rattle.kc_types.specs.declared.reply.Reply.TheVariants as reply
use Rattle.kc_types.specs.declared.call.Call.{Call}
use Rattle.kc_types.specs.declared.call.Call.TheVariants.{HostRead, HostWrite, Verify, GuestWrite, Drop, Clear}
use Rattle.kc_model.specs.State.{State, Frame, frame_at, mapped_at, zero_page}
use Rattle.kc_model.specs.Refusals.{refusal, conditions, backing}
use Rattle.kc_model.specs.Next.{next, unless_refused}
use Rattle.kc_model.specs.Lawful.{IsLawful}
use Rattle.kc_model.specs.Safety.{ServesOpenFrames, changes_bytes_of}
use Rattle.kc_model.specs.Footprints.{state_at, call_at}
use Rattle.kc_model.proofs.Refusals.Served.{none-of}
use Rattle.kc_model.proofs.Refusals.Answered.{vm-in}
use Rattle.kc_model.proofs.States.Lists.{changed-same, changed-other}
use Rattle.kc_model.proofs.States.Changes.{exists}
use Rattle.kc_model.proofs.Lawful.Clears.{after}
use Rattle.kc_model.proofs.Lawful.LawfulTraces.{lawful-at}
use Rattle.kc_model.proofs.Safe.Safe.{safe}
use Rattle.kc_types.specs.declared.custody.Custody.{Custody}
use Rattle.kc_model.specs.Custody.{custody_at}
use Rattle.kc_model.specs.CustodyLaws.{KeepsPrivate, IsKeptFrom, writes_for}
use Rattle.kc_model.proofs.Custody.Still.{still, one-call}

-- a VM's frame
is-vm : (owner : Owner) (v : ℕ) → owner ≡ Vm v → owner ≡ Free → ⊥
is-vm owner v mine free = cc

drops : (refused : Option Refusal) (m : State) (w c g v f : ℕ) → refusal m (Drop w c g) ≡ refused → (frame_at m f).owner ≡ Vm v
    → custody_at (unless_refused refused m (Drop w c g)).1 f ≡ custody_at m f → (frame_at (unless_refused refused m (Drop w c g)).1 f).bytes ≡ (frame_at m f).bytes
drops (Some r) m w c g v f served mine same = refl
drops None m w c g v f served mine same =
    let k = backing (mapped_at m w g) in
    elim (cases_eq f k) [
      | inl here ↦
          let lt : f < length m.frames = exists m f (λ core. cc) in
          let freed = ap (λ (x : Frame). x.owner) (changed-same m k (record (frame_at m k) { owner = Free; gfn = None; present = false; bytes = zero_page }) (subst (λ x. x < length m.frames) here lt)) in
          let now : (frame_at (unless_refused None m (Drop w c g)).1 f).owner ≡ Vm v = ap (λ (x : Custody). x.owner) same ∙ mine in
          absurd (is-vm _ v (subst (λ x. (frame_at (unless_refused None m (Drop w c g)).1 x).owner ≡ Vm v) here now) freed)
      | inr other ↦ ap (λ (x : Frame). x.bytes) (changed-other m k _ f other)
    ]

clears : (refused : Option Refusal) (m : State) (w v f : ℕ) → IsLawful m → refusal m (Clear w) ≡ refused → (frame_at m f).owner ≡ Vm v
    → custody_at (unless_refused refused m (Clear w)).1 f ≡ custody_at m f → (frame_at (unless_refused refused m (Clear w)).1 f).bytes ≡ (frame_at m f).bytes
clears (Some r) m w v f is served mine same = refl
clears None m w v f is served mine same =
    elim (after m w f is (vm-in m w (none-of (conditions m (Clear w)) served 0))) [
      | inl scrubbed ↦ absurd (is-vm _ v (ap (λ (x : Custody). x.owner) same ∙ mine) (ap (λ (x : Frame). x.owner) scrubbed.1))
      | inr kept ↦ ap (λ (x : Frame). x.bytes) kept.1
    ]

by-safety : (m : State) (call : Call) (v f : ℕ) → IsLawful m → (frame_at m f).owner ≡ Vm v → (frame_at m f).share ≡ 0 → changes_bytes_of v call ≡ false → (frame_at (next m call).1 f).bytes ≡ (frame_at m f).bytes
by-safety m call v f is mine private harmless = (safe m (call ∷ []) is).integrity.0 v f mine private harmless

-- the bytes of a VM's frame that is not shared and stays in its custody change only by writes for the VM
bytes : (m : State) (call : Call) (v f : ℕ) → IsLawful m → (frame_at m f).owner ≡ Vm v → (frame_at m f).share ≡ 0 → custody_at (next m call).1 f ≡ custody_at m f → writes_for v call ≡ false → (frame_at (next m call).1 f).bytes ≡ (frame_at m f).bytes
unfolding next
bytes m (Drop w c g) v f is mine private same harmless = drops (refusal m (Drop w c g)) m w c g v f refl mine same
bytes m (Clear w) v f is mine private same harmless = clears (refusal m (Clear w)) m w v f is refl mine same
bytes m (GuestWrite w c g off written) v f is mine private same harmless = by-safety m (GuestWrite w c g off written) v f is mine private harmless
bytes m (Verify w) v f is mine private same harmless = by-safety m (Verify w) v f is mine private harmless
bytes m call v f is mine private same harmless = by-safety m call v f is mine private refl

-- the host is not served at such a frame
unseen : (m new : State) (call : Call) (answer : Reply) (v f : ℕ) → ServesOpenFrames m call answer new → (frame_at m f).owner ≡ Vm v → (frame_at m f).share ≡ 0 → IsKeptFrom f call answer
unseen m new (HostRead g off len) (reply.Data read) v f served mine private = λ same. elim served [
  | inl host ↦ let h : (frame_at m f).owner ≡ Host = subst (λ x. (frame_at m x).owner ≡ Host) same host in cc
  | inr shared ↦ let h : 0 < (frame_at m f).share = subst (λ x. 0 < (frame_at m x).share) same shared in omega (arith, private, h)
]
unseen m new (HostWrite g off written) reply.Done v f served mine private = λ same. elim served [
  | inl host ↦ let h : (frame_at m f).owner ≡ Host = subst (λ x. (frame_at m x).owner ≡ Host) same host in cc
  | inr shared ↦ let h : 0 < (frame_at m f).share = subst (λ x. 0 < (frame_at m x).share) same shared in omega (arith, private, h)
]
unseen m new _ _ v f served mine private = tt

pub private : (m : State) (calls : List Call) → IsLawful m → KeepsPrivate m calls
private m calls is i j v f stretch none owner share k from below =
    let ends = stretch.ends in
    let there = lawful-at m calls is k (omega (arith, below, ends)) in
    let so_far = still m calls is i j f stretch none k from (omega (arith, below)) in
    let mine : (frame_at (state_at m calls k) f).owner ≡ Vm v = ap (λ (x : Custody). x.owner) so_far ∙ owner in
    let private : (frame_at (state_at m calls k) f).share ≡ 0 = ap (λ (x : Custody). x.share) so_far ∙ share in
    let more : k + 1 ≡ suc k = omega arith in
    let same = one-call m calls i j f is stretch none k from below in
    record {
      bytes = λ harmless. rw more (bytes (state_at m calls k) (call_at calls k) v f there mine private (rw more at same) harmless);
      unseen = unseen (state_at m calls k) (next (state_at m calls k) (call_at calls k)).1 (call_at calls k) _ v f (safe (state_at m calls k) (call_at calls k ∷ []) there).host_access.0 mine private;
    }
