use Rattle.std.proofs.Common.{ap, ◌∙◌, length}
use Rattle.std.proofs.lemmas.List.{length-replicate}
use Rattle.kc_custody.specs.Endings.{no_endings}
use Rattle.kc_custody.proofs.Growth.{growing-none, open-none}
use Rattle.kc_custody.proofs.growing.Lives.none.Goals as goal

pub returns : goal.returns
returns c = record {
  count = ap length c.in_ok-none-2.ensures ∙ length-replicate c.args.frames no_endings;
  each = rw c.in_ok-none.ensures.lives (growing-none c.in_ok-none-2.field-0);
  places = open-none c.in_ok-none.field-0.places.items c.in_ok-none.ensures.places;
}
