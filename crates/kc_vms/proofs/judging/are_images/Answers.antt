use Rattle.std.proofs.Common.{refl}
use Rattle.std.proofs.lemmas.List.{take_all}
use Rattle.std.proofs.lemmas.List.Elements.{All-more}
use Rattle.kc_model.specs.Lawful.{IsLawfulImage}
use Rattle.kc_vms.proofs.judging.are_images.Goals as goal

pub loop-image-preserved : goal.loop-image-preserved
loop-image-preserved c =
    All-more (IsLawfulImage c.args.version) c.args.images.now c.loop-image.image-index (record { base = 0; len = 0; pages = 0 }) c.loop-image-test.true c.loop-image.invariant (c.is_image.ensures.0 c.if-not-is_image.false)

pub returns : goal.returns
returns c = (λ yes. rw (take_all c.loop-image.image-index c.args.images.now c.loop-image-test.false) at c.loop-image.invariant, λ all. refl)
