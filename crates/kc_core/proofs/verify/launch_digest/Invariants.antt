use Rattle.std.proofs.Common.{take}
use Rattle.std.specs.List.{flat_map}
use Rattle.kc_model.specs.Effects.{launch_part}
use Rattle.kc_parts.specs.States.{state_of}
use Rattle.kc_vms.specs.Measure.{WasFed}
use Rattle.kc_core.proofs.verify.launch_digest.Given as goal

-- what was fed is what is measured of the images so far
abbrev pub invariant-loop-image : goal.invariant-loop-image
invariant-loop-image l = WasFed l.measure (flat_map (launch_part (state_of l.config l.parts) l.fn.vm) (take l.image-index l.images))
