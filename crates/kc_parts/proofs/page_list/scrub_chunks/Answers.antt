use Rattle.std.proofs.Common.{map}
use Rattle.std.proofs.lemmas.List.Edits.{map_over_more}
use Rattle.kc_page.specs.Page.{scrubbed_page}
use Rattle.kc_parts.proofs.page_list.scrub_chunks.Goals as goal

pub loop-chunk-preserved : goal.loop-chunk-preserved
loop-chunk-preserved g c = rw (c.scrub.ensures, ← c.chunk-item.is) (map_over_more (map scrubbed_page) c.args.chunks.now c.loop-chunk.chunks c.loop-chunk.chunk-index c.chunk-item.result c.loop-chunk-test.true c.loop-chunk.invariant c.chunk-item.is)
