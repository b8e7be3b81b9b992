-- Every trace from a lawful state changes bytes as it should.
use Rattle.std.proofs.Common.{ℕ, ◌≡◌, ◌<◌, inl, inr, false, cond, length, List, [], ◌∷◌, nat_eq, refl, sym, ap, subst, ◌∙◌, Option, None, Some}
use Rattle.std.proofs.lemmas.Bool.{cases_eq, eq-eqb, ne_eqb}
use Rattle.std.specs.List.{range_with_len}
use Rattle.kc_types.specs.Configuration.{slot_count}
use Rattle.kc_types.specs.declared.call.Call.{Call}
use Rattle.kc_types.specs.declared.call.Call.TheVariants.{Take, Give, HostFault, HostRead, HostWrite, RegisterVm, RegisterVcpu, SetBoot, Remap, Verify, Map, GuestRead, GuestWrite, Grant, Revoke, GrantRange, RevokeRange, Drop, Clear}
use Rattle.kc_types.specs.declared.reply.Reply.TheVariants as reply
use Rattle.kc_types.specs.declared.refusal.Refusal.{Refusal}
use Rattle.kc_types.specs.declared.owner.Owner.TheVariants.{Core, Free}
use Rattle.kc_model.specs.State.{State, Frame, frame_at, slot_at, mapped_at, with_frame, untouched, zero_page, overwritten}
use Rattle.kc_model.specs.Refusals.{refusal, backing, conditions}
use Rattle.kc_model.specs.Effects.{effect, host_takes, guest_read, guest_written, written, frames_under, granted, revoked}
use Rattle.kc_model.specs.Next.{next, unless_refused}
use Rattle.kc_model.specs.Lawful.{IsLawful}
use Rattle.kc_model.specs.Writing.{bytes_after, WritesOnly, IsWritten}
use Rattle.kc_model.proofs.States.Frames.{part-set}
use Rattle.kc_model.proofs.States.Each.{part-changed}
use Rattle.kc_model.proofs.States.Lists.{changed-same, changed-other}
use Rattle.kc_model.proofs.States.Changes.{exists}
use Rattle.kc_model.proofs.Refusals.Served.{none-of, host_access-served}
use Rattle.kc_model.proofs.Refusals.Answered.{vm-in, was-host}
use Rattle.kc_model.proofs.Lawful.GuestCalls.{guest_access-served, guest_frame-served, owner-mapped, exists-mapped}
use Rattle.kc_model.proofs.Lawful.Clears.{after}
use Rattle.kc_model.proofs.Safe.Safe.{every_step}

takes-bytes : (m : State) (free : List ℕ) (f : ℕ) → (frame_at (host_takes m free).1 f).bytes ≡ (frame_at m f).bytes
takes-bytes m [] f = refl
takes-bytes m (k ∷ rest) f = part-set (λ (x : Frame). x.bytes) m.frames k _ (untouched Core) refl f

-- a frame is written over
overwrites : (m : State) (k f off : ℕ) (bytes : List ℕ) → k < length m.frames → (frame_at (written m k off bytes) f).bytes ≡ cond (nat_eq k f) (overwritten (frame_at m f).bytes off bytes) (frame_at m f).bytes
overwrites m k f off bytes lt = elim (cases_eq k f) [
  | inl same ↦ subst (λ x. (frame_at (written m k off bytes) x).bytes ≡ cond (nat_eq k x) (overwritten (frame_at m x).bytes off bytes) (frame_at m x).bytes) same
      (rw (eq-eqb k k refl) (ap (λ (x : Frame). x.bytes) (changed-same m k _ lt)))
  | inr other ↦ rw (ne_eqb k f other) (ap (λ (x : Frame). x.bytes) (changed-other m k _ f (λ same. other (sym same))))
]

guest-writes : (m : State) (v c g off : ℕ) (bytes : List ℕ) (at : Option ℕ) (f : ℕ) → IsLawful m → v < slot_count m.config → mapped_at m v g ≡ at
    → (frame_at (guest_written m v c g off bytes at).1 f).bytes ≡ bytes_after m f (GuestWrite v c g off bytes) (guest_written m v c g off bytes at).0 (frame_at m f).bytes
guest-writes m v c g off bytes None f is v_in e = refl
guest-writes m v c g off bytes (Some k) f is v_in e = rw e (overwrites m k f off bytes (exists-mapped m v g k is v_in e))

-- a frame whose owner changes differs from each frame that keeps its owner
leaves : (m : State) (k f : ℕ) (frame : Frame) → k < length m.frames → (frame.owner ≡ (frame_at m k).owner → ⊥) → (frame_at (with_frame m k frame) f).owner ≡ (frame_at m f).owner → (frame_at (with_frame m k frame) f).bytes ≡ (frame_at m f).bytes
leaves m k f frame lt differ stays = elim (cases_eq f k) [
  | inl same ↦ absurd (differ (ap (λ (x : Frame). x.owner) (sym (changed-same m k frame lt)) ∙ subst (λ x. (frame_at (with_frame m k frame) x).owner ≡ (frame_at m x).owner) same stays))
  | inr other ↦ ap (λ (x : Frame). x.bytes) (changed-other m k frame f other)
]

reads-bytes : (m : State) (v c g off len : ℕ) (at : Option ℕ) (f : ℕ) → (frame_at (guest_read m v c g off len at).1 f).bytes ≡ (frame_at m f).bytes
reads-bytes m v c g off len None f = refl
reads-bytes m v c g off len (Some k) f = refl

writes-effect : (m : State) (call : Call) → IsLawful m → refusal m call ≡ None → WritesOnly m call (effect m call).0 (effect m call).1
writes-effect m Take is served f stays other = takes-bytes m m.free f
writes-effect m (Give k) is served f stays other =
    let host = was-host m k (none-of (conditions m (Give k)) served 1) in
    leaves m k f (record (frame_at m k) { owner = Free; present = false; bytes = zero_page }) (exists m k (λ core. cc)) (λ same. cc) stays
writes-effect m (HostFault k) is served f stays other = part-set (λ (x : Frame). x.bytes) m.frames k _ (untouched Core) refl f
writes-effect m (HostRead k off len) is served f stays other = refl
writes-effect m (HostWrite k off bytes) is served f stays other =
    let seen = host_access-served m k off (length bytes) served in
    overwrites m k f off bytes (rw is.frames seen.frame)
writes-effect m (RegisterVm v) is served f stays other = refl
writes-effect m (RegisterVcpu v c) is served f stays other = refl
writes-effect m (SetBoot v base len) is served f stays other = refl
writes-effect m (Remap v i k) is served f stays other = part-set (λ (x : Frame). x.bytes) m.frames k _ (untouched Core) refl f
writes-effect m (Verify v) is served f stays other = absurd cc
writes-effect m (Map v c k) is served f stays other = part-set (λ (x : Frame). x.bytes) m.frames k _ (untouched Core) refl f
writes-effect m (GuestRead v c g off len) is served f stays other = reads-bytes m v c g off len (mapped_at m v g) f
writes-effect m (GuestWrite v c g off bytes) is served f stays other = guest-writes m v c g off bytes (mapped_at m v g) f is (guest_access-served m v c g off (length bytes) served).0.vm refl
writes-effect m (Grant v c g) is served f stays other = part-set (λ (x : Frame). x.bytes) m.frames (backing (mapped_at m v g)) _ (untouched Core) refl f
writes-effect m (Revoke v c g) is served f stays other = part-set (λ (x : Frame). x.bytes) m.frames (backing (mapped_at m v g)) _ (untouched Core) refl f
writes-effect m (GrantRange v c g n) is served f stays other = part-changed (λ x. x.bytes) granted (λ x. refl) m.frames (frames_under (slot_at m v).mapped (range_with_len g n)) f
writes-effect m (RevokeRange v c g n) is served f stays other = part-changed (λ x. x.bytes) revoked (λ x. refl) m.frames (frames_under (slot_at m v).mapped (range_with_len g n)) f
writes-effect m (Drop v c g) is served f stays other =
    let seen = guest_frame-served m v c g _ served in
    let k = backing (mapped_at m v g) in
    let owner = owner-mapped m v g k is seen.0.call.vm seen.0.mapped in
    leaves m k f (record (frame_at m k) { owner = Free; gfn = None; present = false; bytes = zero_page }) (exists-mapped m v g k is seen.0.call.vm seen.0.mapped) (λ same. cc) stays
writes-effect m (Clear v) is served f stays other = elim (after m v f is (vm-in m v (none-of (conditions m (Clear v)) served 0))) [
  | inl mine ↦ let was = mine.0 in let now = ap (λ (x : Frame). x.owner) mine.1 in absurd cc
  | inr theirs ↦ ap (λ (x : Frame). x.bytes) theirs.1
]

writes-refused : (m : State) (call : Call) (r : Refusal) → WritesOnly m call (reply.Refused r) m
writes-refused m (HostWrite k off bytes) r f stays other = refl
writes-refused m (GuestWrite v c g off bytes) r f stays other = refl
writes-refused m _ r f stays other = refl

writes-unless : (refused : Option Refusal) (m : State) (call : Call) → IsLawful m → refusal m call ≡ refused → WritesOnly m call (unless_refused refused m call).0 (unless_refused refused m call).1
writes-unless None m call is served = writes-effect m call is served
writes-unless (Some r) m call is served = writes-refused m call r

writes : (m : State) (call : Call) → IsLawful m → WritesOnly m call (next m call).0 (next m call).1
unfolding next
writes m call is = writes-unless (refusal m call) m call is refl

pub written-only : (m : State) (calls : List Call) → IsLawful m → IsWritten m calls
written-only m calls is = every_step WritesOnly writes m calls is
