use Rattle.std.proofs.Common.{sym, ◌∙◌}
use Rattle.kc_snapshot.proofs.Mapped.{maps-images, images-held, images-mapped}
use Rattle.kc_snapshot.proofs.slots.maps_images.Goals as goal

pub returns-then-not-are_held : goal.returns-then-not-are_held
returns-then-not-are_held c = (λ no. cc, λ maps. sym c.if-not-are_held.true ∙ c.are_held.ensures.1 (images-held c.args.entries.now c.args.images.now maps))

pub returns : goal.returns
returns c = (
  λ yes. maps-images c.args.entries.now c.args.images.now (c.are_held.ensures.0 c.if-not-are_held.false) (c.are_mapped.ensures.0 yes),
  λ maps. c.are_mapped.ensures.1 (images-mapped c.args.entries.now c.args.images.now maps),
)
