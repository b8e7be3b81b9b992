use Rattle.kc_parts.proofs.Whole.{held-parts}
use Rattle.kc_parts.proofs.parts.Parts.in_places.Goals as goal

pub invariant_of-result-2 : goal.invariant_of-result-2
invariant_of-result-2 c = rw (c.pages.view_is, c.below.ensures, c.in_ok-all_set.ensures, ← c.requires.count) (held-parts c.args.pages c.requires.frames)
