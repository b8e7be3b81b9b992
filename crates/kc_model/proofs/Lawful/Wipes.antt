-- A lawful state without its bytes is lawful.
use Rattle.std.proofs.Common.{ℕ, ◌≡◌, ◌<◌, length, refl, ◌∙◌}
use Rattle.std.proofs.Math.ListN.{get_or-map}
use Rattle.std.proofs.lemmas.List.{length-map}
use Rattle.kc_types.specs.declared.owner.Owner.TheVariants.{Core}
use Rattle.kc_model.specs.State.{State, Frame, frame_at, untouched}
use Rattle.kc_model.specs.Wiped.{wiped, wiped_frame}
use Rattle.kc_model.specs.Lawful.{IsLawful, IsLawfulFrame}
use Rattle.kc_types.specs.Configuration.{Configuration}
use Rattle.kc_model.proofs.States.ZeroPage.{zero_page-is}

frame-wiped : (m : State) (f : ℕ) → frame_at (wiped m) f ≡ wiped_frame (frame_at m f)
frame-wiped m f = get_or-map wiped_frame m.frames f (untouched Core)

lawful-wiped_frame : (config : Configuration) (f : ℕ) (frame : Frame) → IsLawfulFrame config f frame → IsLawfulFrame config f (wiped_frame frame)
lawful-wiped_frame config f frame is = record {
  core = is.core;
  mapped = is.mapped;
  shared = is.shared;
  sharer = is.sharer;
  reached = is.reached;
  zeroed = λ h. refl;
  page = zero_page-is;
  slot = is.slot;
  gfn = is.gfn;
}

pub lawful-wiped : (m : State) → IsLawful m → IsLawful (wiped m)
lawful-wiped m is = record {
  config = is.config;
  frames = length-map m.frames wiped_frame ∙ is.frames;
  slots = is.slots;
  each_frame = λ f lt. rw (frame-wiped m f) (lawful-wiped_frame m.config f (frame_at m f) (is.each_frame f (let within : f < length m.frames = rw (length-map m.frames wiped_frame) at lt in within)));
  each_slot = is.each_slot;
  free = λ f. rw (frame-wiped m f) (is.free f);
  listed = λ v lt f. rw (frame-wiped m f) (is.listed v lt f);
  mapped = λ v g f lt. rw (frame-wiped m f) (is.mapped v g f lt);
  shared = λ v f lt. rw (frame-wiped m f) (is.shared v f lt);
}
