use Rattle.std.proofs.Common.{List, map, sym, ap, subst, ◌∙◌}
use Rattle.kc_page.specs.declared.page.Page.{Page}
use Rattle.kc_parts.specs.Marks.{scrubbed_if_marked}
use Rattle.kc_parts.specs.Chunks.{all_pages, AreChunks}
use Rattle.kc_parts.proofs.Chunked.{written-back}
use Rattle.kc_parts.proofs.ChunkLists.{changed-in, same-chunks}
use Rattle.kc_parts.proofs.page_list.PageList.scrub_marked.Goals as goal

pub invariant_of-self : goal.invariant_of-self
invariant_of-self c =
    let p = c.self.inside in
    let back = written-back (map (scrubbed_if_marked c.args.marks.now)) p.chunks.items c.scrub_marked_chunks.new.chunks p.chunks.len p.chunks.ok.0 (c.scrub_marked_chunks.ensures ∙ ap (map (map (scrubbed_if_marked c.args.marks.now))) c.as_mut_slice.ensures.value) in
    (subst (λ (chunks : List (List Page)). AreChunks chunks) (sym back) (same-chunks (scrubbed_if_marked c.args.marks.now) p.chunks.items c.self.invariant.0), c.self.invariant.1)

pub returns : goal.returns
returns c =
    let p = c.self.inside in
    ap all_pages (written-back (map (scrubbed_if_marked c.args.marks.now)) p.chunks.items c.scrub_marked_chunks.new.chunks p.chunks.len p.chunks.ok.0 (c.scrub_marked_chunks.ensures ∙ ap (map (map (scrubbed_if_marked c.args.marks.now))) c.as_mut_slice.ensures.value))
    ∙ changed-in (scrubbed_if_marked c.args.marks.now) p.chunks.items
    ∙ ap (map (scrubbed_if_marked c.args.marks.now)) c.self.view_is
