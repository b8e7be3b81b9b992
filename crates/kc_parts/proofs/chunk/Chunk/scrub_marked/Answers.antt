use Rattle.std.proofs.Common.{map, ap, ◌∙◌}
use Rattle.kc_parts.specs.Chunks.{pages_of}
use Rattle.kc_parts.specs.Marks.{scrubbed_if_marked}
use Rattle.kc_parts.proofs.Chunked.{marked-of, written-back}
use Rattle.kc_parts.proofs.chunk.Chunk.scrub_marked.Goals as goal

pub returns : goal.returns
returns c =
    let p = c.self.inside in
    ap (pages_of p.layout p.first p.count) (written-back (scrubbed_if_marked c.args.marks.now) p.pages.items c.scrub_each_marked.new.pages p.pages.len p.pages.ok.0 (c.scrub_each_marked.ensures ∙ ap (map (scrubbed_if_marked c.args.marks.now)) c.as_mut_slice.ensures.value))
    ∙ marked-of c.args.marks.now p.layout p.first p.count p.pages.items
    ∙ ap (map (scrubbed_if_marked c.args.marks.now)) c.self.view_is
