use Rattle.std.proofs.lemmas.List.Edits.{map_over_more}
use Rattle.kc_parts.specs.Marks.{scrubbed_if_marked}
use Rattle.kc_parts.proofs.marks.scrub_each_marked.Goals as goal

pub loop-page-preserved : goal.loop-page-preserved
loop-page-preserved c = rw (c.scrub_if_marked.ensures, ← c.page-item.is) (map_over_more (scrubbed_if_marked c.args.marks.now) c.args.pages.now c.loop-page.pages c.loop-page.page-index c.page-item.result c.loop-page-test.true c.loop-page.invariant c.page-item.is)
