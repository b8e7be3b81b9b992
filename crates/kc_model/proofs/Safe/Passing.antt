-- Every trace from a lawful state passes frames on as it should.
use Rattle.std.proofs.Common.{ℕ, ◌≡◌, ◌<◌, inl, inr, false, length, List, [], ◌∷◌, refl, sym, ap, subst, ◌∙◌, Option, None, Some}
use Rattle.std.proofs.lemmas.Bool.{cases_eq}
use Rattle.std.specs.List.{range_with_len}
use Rattle.kc_types.specs.Configuration.{slot_count}
use Rattle.kc_types.specs.declared.call.Call.{Call}
use Rattle.kc_types.specs.declared.call.Call.TheVariants.{Take, Give, HostFault, HostWrite, Remap, Verify, Map, GuestRead, GuestWrite, Grant, Revoke, GrantRange, RevokeRange, Drop, Clear}
use Rattle.kc_types.specs.declared.refusal.Refusal.{Refusal}
use Rattle.kc_types.specs.declared.owner.Owner.TheVariants.{Core, Host, Free, Vm}
use Rattle.kc_model.specs.State.{State, Frame, Image, frame_at, slot_at, mapped_at, with_frame, untouched, zero_page}
use Rattle.kc_model.specs.Refusals.{refusal, backing, conditions, next_gfn, pending}
use Rattle.kc_model.specs.Effects.{effect, host_takes, hand, guest_read, guest_written, trimmed, all_trimmed, verified, unapproved, frames_under, granted, revoked, cleared}
use Rattle.kc_model.specs.Next.{next, unless_refused}
use Rattle.kc_model.specs.Lawful.{IsLawful}
use Rattle.kc_model.specs.Safety.{EachStep}
use Rattle.kc_model.specs.Passing.{Passes, PassesFrames}
use Rattle.kc_model.proofs.States.Frames.{part-set}
use Rattle.kc_model.proofs.States.Each.{part-changed}
use Rattle.kc_model.proofs.States.Lists.{changed-same, changed-other}
use Rattle.kc_model.proofs.States.Changes.{exists}
use Rattle.kc_model.proofs.Refusals.Served.{none-of}
use Rattle.kc_model.proofs.Refusals.Answered.{vm-in, was-host}
use Rattle.kc_model.proofs.Lawful.Moves.{first_free}
use Rattle.kc_model.proofs.Lawful.GuestCalls.{guest_frame-served, owner-mapped, exists-mapped}
use Rattle.kc_model.proofs.Lawful.Clears.{after}
use Rattle.kc_model.proofs.Safe.Safe.{every_step}

-- a frame is written: it passes as it should, and every other frame stays
one : (m : State) (k : ℕ) (frame : Frame) → k < length m.frames → Passes (frame_at m k) frame → (f : ℕ) → Passes (frame_at m f) (frame_at (with_frame m k frame) f)
one m k frame lt way f = elim (cases_eq f k) [
  | inl same ↦ subst (λ x. Passes (frame_at m x) (frame_at (with_frame m k frame) x)) (sym same) (subst (λ (x : Frame). Passes (frame_at m k) x) (sym (changed-same m k frame lt)) way)
  | inr other ↦ inl (ap (λ (x : Frame). x.owner) (changed-other m k frame f other))
]

takes : (m : State) (free : List ℕ) → IsLawful m → m.free ≡ free → (f : ℕ) → Passes (frame_at m f) (frame_at (host_takes m free).1 f)
takes m [] is e f = inl refl
takes m (k ∷ rest) is e f =
    let first = first_free m k rest is e in
    one m k (record (frame_at m k) { owner = Host; present = false }) first.1 (inr (inl (first.0, refl, (is.each_frame k first.1).zeroed first.0))) f

host-exists : (m : State) (k : ℕ) → (frame_at m k).owner ≡ Host → k < length m.frames
host-exists m k host = exists m k (λ core. cc)

pub handed : (m : State) (v g k : ℕ) → (frame_at m k).owner ≡ Host → (f : ℕ) → Passes (frame_at m f) (frame_at (hand m v g k) f)
handed m v g k host f = one m k (record (frame_at m k) { owner = Vm v; gfn = Some g; present = false }) (host-exists m k host) (inr (inr (inr (inl (v, host, refl, refl))))) f

owner-trimmed : (m : State) (v : ℕ) (images : List Image) (f : ℕ) → (frame_at (all_trimmed m v images) f).owner ≡ (frame_at m f).owner
owner-trimmed m v [] f = refl
owner-trimmed m v (image ∷ images) f = owner-trimmed (trimmed m v image) v images f ∙ part-set (λ (x : Frame). x.owner) m.frames _ _ (untouched Core) refl f

verifies : (m : State) (v : ℕ) (first : Option ℕ) (f : ℕ) → Passes (frame_at m f) (frame_at (verified m v first).1 f)
verifies m v None f = inl (owner-trimmed m v (slot_at m v).images f)
verifies m v (Some i) f = inl refl

reads : (m : State) (v c g off len : ℕ) (at : Option ℕ) (f : ℕ) → Passes (frame_at m f) (frame_at (guest_read m v c g off len at).1 f)
reads m v c g off len None f = inl refl
reads m v c g off len (Some k) f = inl refl

writes : (m : State) (v c g off : ℕ) (bytes : List ℕ) (at : Option ℕ) (f : ℕ) → Passes (frame_at m f) (frame_at (guest_written m v c g off bytes at).1 f)
writes m v c g off bytes None f = inl refl
writes m v c g off bytes (Some k) f = inl (part-set (λ (x : Frame). x.owner) m.frames k _ (untouched Core) refl f)

clears : (m : State) (v f : ℕ) → IsLawful m → v < slot_count m.config → Passes (frame_at m f) (frame_at (cleared m v) f)
clears m v f is lt = elim (after m v f is lt) [
  | inl mine ↦ inr (inr (inr (inr (v, mine.0, ap (λ (x : Frame). x.owner) mine.1, ap (λ (x : Frame). x.bytes) mine.1))))
  | inr other ↦ inl (ap (λ (x : Frame). x.owner) other.1)
]

passes-effect : (m : State) (call : Call) → IsLawful m → refusal m call ≡ None → (f : ℕ) → Passes (frame_at m f) (frame_at (effect m call).1 f)
passes-effect m Take is served f = takes m m.free is refl f
passes-effect m (Give k) is served f =
    let host = was-host m k (none-of (conditions m (Give k)) served 1) in
    one m k (record (frame_at m k) { owner = Free; present = false; bytes = zero_page }) (host-exists m k host) (inr (inr (inl (host, refl, refl)))) f
passes-effect m (HostFault k) is served f = inl (part-set (λ (x : Frame). x.owner) m.frames k _ (untouched Core) refl f)
passes-effect m (HostWrite k off bytes) is served f = inl (part-set (λ (x : Frame). x.owner) m.frames k _ (untouched Core) refl f)
passes-effect m (Remap v i k) is served f = handed m v (next_gfn m v i) k (was-host m k (none-of (conditions m (Remap v i k)) served 6)) f
passes-effect m (Verify v) is served f = verifies m v (unapproved m v) f
passes-effect m (Map v c k) is served f = handed m v (pending m v c) k (was-host m k (none-of (conditions m (Map v c k)) served 8)) f
passes-effect m (GuestRead v c g off len) is served f = reads m v c g off len (mapped_at m v g) f
passes-effect m (GuestWrite v c g off bytes) is served f = writes m v c g off bytes (mapped_at m v g) f
passes-effect m (Grant v c g) is served f = inl (part-set (λ (x : Frame). x.owner) m.frames (backing (mapped_at m v g)) _ (untouched Core) refl f)
passes-effect m (Revoke v c g) is served f = inl (part-set (λ (x : Frame). x.owner) m.frames (backing (mapped_at m v g)) _ (untouched Core) refl f)
passes-effect m (GrantRange v c g n) is served f = inl (part-changed (λ x. x.owner) granted (λ x. refl) m.frames (frames_under (slot_at m v).mapped (range_with_len g n)) f)
passes-effect m (RevokeRange v c g n) is served f = inl (part-changed (λ x. x.owner) revoked (λ x. refl) m.frames (frames_under (slot_at m v).mapped (range_with_len g n)) f)
passes-effect m (Drop v c g) is served f =
    let seen = guest_frame-served m v c g _ served in
    let k = backing (mapped_at m v g) in
    one m k (record (frame_at m k) { owner = Free; gfn = None; present = false; bytes = zero_page }) (exists-mapped m v g k is seen.0.call.vm seen.0.mapped)
    (inr (inr (inr (inr (v, owner-mapped m v g k is seen.0.call.vm seen.0.mapped, refl, refl))))) f
passes-effect m (Clear v) is served f = clears m v f is (vm-in m v (none-of (conditions m (Clear v)) served 0))
passes-effect m _ is served f = inl refl

passes-unless : (refused : Option Refusal) (m : State) (call : Call) → IsLawful m → refusal m call ≡ refused → PassesFrames m call (unless_refused refused m call).0 (unless_refused refused m call).1
passes-unless None m call is served = passes-effect m call is served
passes-unless (Some r) m call is served = λ f. inl refl

passes : (m : State) (call : Call) → IsLawful m → PassesFrames m call (next m call).0 (next m call).1
unfolding next
passes m call is = passes-unless (refusal m call) m call is refl

pub passed : (m : State) (calls : List Call) → IsLawful m → EachStep PassesFrames m calls
passed m calls is = every_step PassesFrames passes m calls is
