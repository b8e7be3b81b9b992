use Rattle.std.proofs.Common.{ap₂, ◌∙◌}
use Rattle.kc_core.specs.Verifying.{rejected_for}
use Rattle.kc_core.proofs.Imaged.{rejected-is}
use Rattle.kc_core.proofs.verify.rejected.Goals as goal

pub returns : goal.returns
returns c =
    c.unapproved-2.ensures
    ∙ ap₂ (rejected_for c.args.config.now) (c.as_slice.ensures.value ∙ c.measured_images.ensures) c.launch_of-launch.ensures
    ∙ rejected-is c.args.config.now c.args.parts.now c.args.vm
