use Rattle.std.proofs.Common.{refl, sym, ◌∙◌}
use Rattle.std.proofs.lemmas.List.{take_all}
use Rattle.std.proofs.lemmas.List.Elements.{All-more}
use Rattle.kc_snapshot.proofs.Mapped.{MapsPages}
use Rattle.kc_snapshot.proofs.slots.are_mapped.Goals as goal

pub returns-then-not-is_mapped : goal.returns-then-not-is_mapped
returns-then-not-is_mapped c = (λ no. cc, λ all. sym c.if-not-is_mapped.true ∙ c.is_mapped.ensures.1 (all c.loop-image.image-index (record { base = 0; len = 0; pages = 0 }) c.loop-image-test.true))

pub loop-image-preserved : goal.loop-image-preserved
loop-image-preserved c =
    All-more (MapsPages c.args.entries.now) c.args.images.now c.loop-image.image-index (record { base = 0; len = 0; pages = 0 }) c.loop-image-test.true c.loop-image.invariant (c.is_mapped.ensures.0 c.if-not-is_mapped.false)

pub returns : goal.returns
returns c = (λ yes. rw (take_all c.loop-image.image-index c.args.images.now c.loop-image-test.false) at c.loop-image.invariant, λ all. refl)
