-- The host's calls on its frames keep the state lawful.
use Rattle.std.proofs.Common.{ℕ, ◌≡◌, ◌<◌, ◌≤◌, ◌+◌, inl, inr, true, false, None, List, length, refl, ap}
use Rattle.kc_types.specs.Configuration.{Configuration}
use Rattle.kc_types.specs.declared.call.Call.TheVariants.{HostFault, HostWrite}
use Rattle.kc_types.specs.declared.owner.Owner.TheVariants.{Free}
use Rattle.kc_model.specs.State.{State, Frame, frame_at, with_frame, overwritten}
use Rattle.kc_model.specs.Refusals.{refusal}
use Rattle.kc_model.specs.Effects.{effect}
use Rattle.kc_model.specs.Lawful.{IsLawful, IsLawfulFrame, is_vm}
use Rattle.kc_model.proofs.Refusals.Served.{host_fault-served, host_access-served}
use Rattle.kc_model.proofs.States.Changes.{lawful-with_frame}
use Rattle.kc_model.proofs.States.Pages.{page-overwritten}

-- the host reaches no free frame
pub not_free : {config : Configuration} {f : ℕ} (frame : Frame) → IsLawfulFrame config f frame → frame.present ≡ true → frame.owner ≡ Free → ⊥
not_free frame is present free = elim (is.reached present) [ inl host ↦ cc | inr shared ↦ let owned = is.sharer shared in let not_vm : is_vm frame.owner ≡ false = ap is_vm free in cc ]

pub lawful-host_fault : (m : State) (f : ℕ) → IsLawful m → refusal m (HostFault f) ≡ None → IsLawful (effect m (HostFault f)).1
lawful-host_fault m f is served =
    let seen = host_fault-served m f served in
    let lt : f < length m.frames = rw is.frames seen.0 in
    let frame = is.each_frame f lt in
    lawful-with_frame m f (record (frame_at m f) { present = true }) is lt refl refl (record {
      core = frame.core;
      mapped = frame.mapped;
      shared = frame.shared;
      sharer = frame.sharer;
      reached = λ _. seen.1;
      zeroed = frame.zeroed;
      page = frame.page;
      slot = frame.slot;
      gfn = frame.gfn;
    }) (λ v within. is.shared v f within)

-- a frame that is not free gets other bytes
pub lawful-with_bytes : (m : State) (f : ℕ) (bytes : List ℕ) → IsLawful m → f < length m.frames → ((frame_at m f).owner ≡ Free → ⊥) → ((IsLawfulFrame m.config f (frame_at m f)) → IsLawfulFrame m.config f (record (frame_at m f) { bytes = bytes })) → IsLawful (with_frame m f (record (frame_at m f) { bytes = bytes }))
lawful-with_bytes m f bytes is lt used here = lawful-with_frame m f (record (frame_at m f) { bytes = bytes }) is lt refl refl (here (is.each_frame f lt)) (λ v within. is.shared v f within)

pub lawful-written : (m : State) (f off : ℕ) (bytes : List ℕ) → IsLawful m → f < length m.frames → ((frame_at m f).owner ≡ Free → ⊥) → off + length bytes ≤ 4096 → IsLawful (with_frame m f (record (frame_at m f) { bytes = overwritten (frame_at m f).bytes off bytes }))
lawful-written m f off bytes is lt used within = lawful-with_bytes m f (overwritten (frame_at m f).bytes off bytes) is lt used (λ (frame : IsLawfulFrame m.config f (frame_at m f)). record {
  core = frame.core;
  mapped = frame.mapped;
  shared = frame.shared;
  sharer = frame.sharer;
  reached = frame.reached;
  zeroed = λ free. absurd (used free);
  page = page-overwritten (frame_at m f).bytes off bytes frame.page within;
  slot = frame.slot;
  gfn = frame.gfn;
})

pub lawful-host_write : (m : State) (f off : ℕ) (bytes : List ℕ) → IsLawful m → refusal m (HostWrite f off bytes) ≡ None → IsLawful (effect m (HostWrite f off bytes)).1
lawful-host_write m f off bytes is served =
    let seen = host_access-served m f off (length bytes) served in
    let lt : f < length m.frames = rw is.frames seen.frame in
    lawful-written m f off bytes is lt (not_free (frame_at m f) (is.each_frame f lt) seen.present) seen.within
