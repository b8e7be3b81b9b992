use Rattle.std.proofs.Common.{◌≡◌, map, take}
use Rattle.kc_model.specs.Custody.{measured_image}
use Rattle.kc_parts.specs.States.{state_of}
use Rattle.kc_core.proofs.verify.measured_images.Given as goal

-- the images so far are measured
abbrev pub invariant-loop-i : goal.invariant-loop-i
invariant-loop-i l = l.measured_images.items ≡ map (measured_image (state_of l.config l.parts) l.fn.vm) (take l.i l.images)

abbrev pub invariant-loop-image : goal.invariant-loop-image
invariant-loop-image l = l.measured_images.items ≡ map (measured_image (state_of l.config l.parts) l.fn.vm) (take l.image-index l.images)
