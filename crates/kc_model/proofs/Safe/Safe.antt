-- Every trace from a lawful state is safe.
use Rattle.std.proofs.Common.{ℕ, zero, suc, ◌≡◌, ◌<◌, inl, inr, false, length, List, [], ◌∷◌, nat_eq, refl, sym, ap, subst, ◌∙◌, Option, None, Some, arith, All}
use Rattle.std.proofs.lemmas.Bool.{eqb-false}
use Rattle.std.specs.List.{range_with_len}
use Rattle.kc_types.specs.declared.call.Call.{Call}
use Rattle.kc_types.specs.declared.call.Call.TheVariants.{Take, Give, HostFault, HostRead, HostWrite, Remap, Verify, Map, GuestRead, GuestWrite, Grant, Revoke, GrantRange, RevokeRange, Drop, Clear}
use Rattle.kc_types.specs.declared.reply.Reply.{Reply}
use Rattle.kc_types.specs.declared.reply.Reply.TheVariants as reply
use Rattle.kc_types.specs.declared.refusal.Refusal.{Refusal}
use Rattle.kc_types.specs.declared.owner.Owner.TheVariants.{Core, Host, Vm}
use Rattle.kc_model.specs.State.{State, Frame, Image, frame_at, slot_at, mapped_at, with_frame, untouched}
use Rattle.kc_model.specs.Refusals.{refusal, backing, conditions}
use Rattle.kc_model.specs.Effects.{effect, host_takes, guest_read, guest_written, trimmed, all_trimmed, verified, unapproved, frames_under, granted, revoked}
use Rattle.kc_model.specs.Next.{next, unless_refused}
use Rattle.kc_model.specs.Lawful.{IsLawful}
use Rattle.kc_model.specs.Safety.{EachStep, KeepsOneOwner, ServesOpenFrames, KeepsPrivateBytes, IsOpen, IsSafe}
use Rattle.kc_model.proofs.States.Frames.{part-set}
use Rattle.kc_model.proofs.States.Each.{part-changed}
use Rattle.kc_model.proofs.Refusals.Served.{host_access-served, none-of}
use Rattle.kc_model.proofs.Refusals.Answered.{vm-in, was-host}
use Rattle.kc_model.proofs.States.Lists.{changed-other}
use Rattle.kc_model.proofs.States.Changes.{vm-same}
use Rattle.kc_model.proofs.Lawful.GuestCalls.{guest_access-served, guest_frame-served, owner-mapped}
use Rattle.kc_model.proofs.Lawful.Verifies.{HasLastPage, last_gfn, lawful-trimmed, each_last_page, verify-served}
use Rattle.kc_model.proofs.Lawful.Clears.{kept-frame}
use Rattle.kc_model.proofs.Lawful.Keeps.{lawful-next}
use Rattle.kc_model.proofs.Safe.Measured.{measured-of}
use Rattle.kc_types.specs.Configuration.{slot_count}

-- what each call of a lawful state keeps, each call of a trace keeps
pub every_step : (Step : State → Call → Reply → State → Type 0) → ((m : State) (call : Call) → IsLawful m → Step m call (next m call).0 (next m call).1) → (m : State) (calls : List Call) → IsLawful m → EachStep Step m calls
every_step Step step m [] is = tt
every_step Step step m (call ∷ calls) is = (step m call is, every_step Step step (next m call).1 calls (lawful-next m call is))

one_owner : (m : State) (call : Call) → IsLawful m → KeepsOneOwner m call (next m call).0 (next m call).1
one_owner m call is = let after = lawful-next m call is in (after.free, after.listed)

open_frame : (m : State) (f off len : ℕ) → IsLawful m → refusal m (HostRead f off len) ≡ None → IsOpen (frame_at m f)
open_frame m f off len is served =
    let seen = host_access-served m f off len served in
    let lt : f < length m.frames = rw is.frames seen.frame in
    (is.each_frame f lt).reached seen.present

serves-refused : (m : State) (call : Call) (r : Refusal) (new : State) → ServesOpenFrames m call (reply.Refused r) new
serves-refused m (HostRead f off len) r new = tt
serves-refused m (HostWrite f off bytes) r new = tt
serves-refused m _ r new = tt

serves-effect : (m : State) (call : Call) → IsLawful m → refusal m call ≡ None → ServesOpenFrames m call (effect m call).0 (effect m call).1
serves-effect m (HostRead f off len) is served = open_frame m f off len is served
serves-effect m (HostWrite f off bytes) is served = open_frame m f off (length bytes) is served
serves-effect m _ is served = tt

serves-unless : (refused : Option Refusal) (m : State) (call : Call) → IsLawful m → refusal m call ≡ refused → ServesOpenFrames m call (unless_refused refused m call).0 (unless_refused refused m call).1
serves-unless None m call is served = serves-effect m call is served
serves-unless (Some r) m call is served = serves-refused m call r m

serves : (m : State) (call : Call) → IsLawful m → ServesOpenFrames m call (next m call).0 (next m call).1
unfolding next
serves m call is = serves-unless (refusal m call) m call is refl

-- what a call leaves of the bytes of a frame

takes-bytes : (m : State) (free : List ℕ) (f : ℕ) → (frame_at (host_takes m free).1 f).bytes ≡ (frame_at m f).bytes
takes-bytes m [] f = refl
takes-bytes m (g ∷ rest) f = part-set (λ (x : Frame). x.bytes) m.frames g _ (untouched Core) refl f

-- a frame of one slot is not a frame of another
other_frame : (m : State) (f k v w : ℕ) → (frame_at m f).owner ≡ Vm v → (frame_at m k).owner ≡ Vm w → nat_eq w v ≡ false → f ≡ k → ⊥
other_frame m f k v w mine theirs differ same = eqb-false w v differ (vm-same w v (sym theirs ∙ subst (λ x. (frame_at m x).owner ≡ Vm v) same mine))

-- what is written to another frame leaves the bytes
bytes-other : (m : State) (k f : ℕ) (frame : Frame) → (f ≡ k → ⊥) → (frame_at (with_frame m k frame) f).bytes ≡ (frame_at m f).bytes
bytes-other m k f frame ne = ap (λ (x : Frame). x.bytes) (changed-other m k frame f ne)

reads-bytes : (m : State) (w c g off len : ℕ) (at : Option ℕ) (f : ℕ) → (frame_at (guest_read m w c g off len at).1 f).bytes ≡ (frame_at m f).bytes
reads-bytes m w c g off len None f = refl
reads-bytes m w c g off len (Some k) f = refl

writes-bytes : (m : State) (w c g off : ℕ) (bytes : List ℕ) (at : Option ℕ) (v f : ℕ) → IsLawful m → w < slot_count m.config → mapped_at m w g ≡ at → (frame_at m f).owner ≡ Vm v → nat_eq w v ≡ false → (frame_at (guest_written m w c g off bytes at).1 f).bytes ≡ (frame_at m f).bytes
writes-bytes m w c g off bytes None v f is w_in e owned differ = refl
writes-bytes m w c g off bytes (Some k) v f is w_in e owned differ = bytes-other m k f _ (other_frame m f k v w owned (owner-mapped m w g k is w_in e) differ)

trims-bytes : (m : State) (w : ℕ) (images : List Image) (v f : ℕ) → IsLawful m → w < slot_count m.config → All (HasLastPage m w) images → (frame_at m f).owner ≡ Vm v → nat_eq w v ≡ false → (frame_at (all_trimmed m w images) f).bytes ≡ (frame_at m f).bytes
trims-bytes m w [] v f is w_in mapped owned differ = refl
trims-bytes m w (image ∷ images) v f is w_in mapped owned differ =
    let k = backing (mapped_at m w (last_gfn image)) in
    let theirs = owner-mapped m w (last_gfn image) k is w_in (mapped zero image (omega arith)) in
    let apart = other_frame m f k v w owned theirs differ in
    let still : (frame_at (trimmed m w image) f).owner ≡ Vm v = ap (λ (x : Frame). x.owner) (changed-other m k _ f apart) ∙ owned in
    trims-bytes (trimmed m w image) w images v f (lawful-trimmed m w image is w_in (mapped zero image (omega arith))) w_in (λ n d lt. mapped (suc n) d (omega arith)) still differ
    ∙ bytes-other m k f _ apart

verifies-bytes : (m : State) (w : ℕ) (first : Option ℕ) (v f : ℕ) → IsLawful m → refusal m (Verify w) ≡ None → (frame_at m f).owner ≡ Vm v → nat_eq w v ≡ false → (frame_at (verified m w first).1 f).bytes ≡ (frame_at m f).bytes
verifies-bytes m w None v f is served owned differ =
    let seen = verify-served m w served in
    trims-bytes m w (slot_at m w).images v f is seen.0 (each_last_page m w is seen.0 seen.1 seen.2) owned differ
verifies-bytes m w (Some i) v f is served owned differ = refl

keeps-effect : (m : State) (call : Call) → IsLawful m → refusal m call ≡ None → KeepsPrivateBytes m call (effect m call).0 (effect m call).1
keeps-effect m Take is served v f owned private others = takes-bytes m m.free f
keeps-effect m (Give g) is served v f owned private others =
    let host = was-host m g (none-of (conditions m (Give g)) served 1) in
    bytes-other m g f _ (λ same. let h : (frame_at m f).owner ≡ Host = rw same host in cc)
keeps-effect m (HostFault g) is served v f owned private others = part-set (λ (x : Frame). x.bytes) m.frames g _ (untouched Core) refl f
keeps-effect m (HostWrite g off bytes) is served v f owned private others = bytes-other m g f _ (λ same. elim (open_frame m g off (length bytes) is served) [
  | inl host ↦ let h : (frame_at m f).owner ≡ Host = rw same host in cc
  | inr shared ↦ let h : 0 < (frame_at m f).share = rw same shared in omega (arith, private)
])
keeps-effect m (Remap w i g) is served v f owned private others = part-set (λ (x : Frame). x.bytes) m.frames g _ (untouched Core) refl f
keeps-effect m (Verify w) is served v f owned private others = verifies-bytes m w (unapproved m w) v f is served owned others
keeps-effect m (Map w c g) is served v f owned private others = part-set (λ (x : Frame). x.bytes) m.frames g _ (untouched Core) refl f
keeps-effect m (GuestRead w c g off len) is served v f owned private others = reads-bytes m w c g off len (mapped_at m w g) f
keeps-effect m (GuestWrite w c g off bytes) is served v f owned private others = writes-bytes m w c g off bytes (mapped_at m w g) v f is (guest_access-served m w c g off (length bytes) served).0.vm refl owned others
keeps-effect m (Grant w c g) is served v f owned private others = part-set (λ (x : Frame). x.bytes) m.frames (backing (mapped_at m w g)) _ (untouched Core) refl f
keeps-effect m (Revoke w c g) is served v f owned private others = part-set (λ (x : Frame). x.bytes) m.frames (backing (mapped_at m w g)) _ (untouched Core) refl f
keeps-effect m (GrantRange w c g n) is served v f owned private others = part-changed (λ x. x.bytes) granted (λ x. refl) m.frames (frames_under (slot_at m w).mapped (range_with_len g n)) f
keeps-effect m (RevokeRange w c g n) is served v f owned private others = part-changed (λ x. x.bytes) revoked (λ x. refl) m.frames (frames_under (slot_at m w).mapped (range_with_len g n)) f
keeps-effect m (Drop w c g) is served v f owned private others =
    let seen = guest_frame-served m w c g _ served in
    let k = backing (mapped_at m w g) in
    bytes-other m k f _ (other_frame m f k v w owned (owner-mapped m w g k is seen.0.call.vm seen.0.mapped) others)
keeps-effect m (Clear w) is served v f owned private others =
    ap (λ (x : Frame). x.bytes) (kept-frame m w f is (vm-in m w (none-of (conditions m (Clear w)) served 0)) (λ theirs. eqb-false w v others (vm-same w v (sym theirs ∙ owned))))
keeps-effect m _ is served v f owned private others = refl

keeps-unless : (refused : Option Refusal) (m : State) (call : Call) → IsLawful m → refusal m call ≡ refused → KeepsPrivateBytes m call (unless_refused refused m call).0 (unless_refused refused m call).1
keeps-unless None m call is served = keeps-effect m call is served
keeps-unless (Some r) m call is served = λ v f owned private others. refl

keeps : (m : State) (call : Call) → IsLawful m → KeepsPrivateBytes m call (next m call).0 (next m call).1
unfolding next
keeps m call is = keeps-unless (refusal m call) m call is refl

-- every trace from a lawful state is safe
pub safe : (m : State) (calls : List Call) → IsLawful m → IsSafe m calls
safe m calls is = record {
  one_owner = every_step KeepsOneOwner one_owner m calls is;
  host_access = every_step ServesOpenFrames serves m calls is;
  measured = λ v. measured-of v m calls;
  integrity = every_step KeepsPrivateBytes keeps m calls is;
}
