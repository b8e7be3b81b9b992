use Rattle.std.proofs.Common.{map, ap, ◌∙◌}
use Rattle.kc_page.specs.Page.{scrubbed_page}
use Rattle.kc_parts.specs.Chunks.{pages_of}
use Rattle.kc_parts.proofs.Chunked.{scrubbed-of, written-back}
use Rattle.kc_parts.proofs.chunk.Chunk.scrub.Goals as goal

pub returns : goal.returns
returns g c =
    let p = c.self.inside in
    ap (pages_of p.layout p.first p.count) (written-back scrubbed_page p.pages.items c.scrub_all.new.pages p.pages.len p.pages.ok.0 (c.scrub_all.ensures ∙ ap (map scrubbed_page) c.as_mut_slice.ensures.value))
    ∙ scrubbed-of p.layout p.first p.count p.pages.items
    ∙ ap (map scrubbed_page) c.self.view_is
