use Rattle.std.proofs.Common.{take, All}
use Rattle.kc_model.specs.Lawful.{IsLawfulImage}
use Rattle.kc_vms.proofs.judging.are_images.Given as goal

abbrev pub invariant-loop-image : goal.invariant-loop-image
invariant-loop-image l = All (IsLawfulImage l.version) (take l.image-index l.images)
