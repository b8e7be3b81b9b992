use Rattle.std.proofs.Common.{◌≡◌, ◌<◌, ◌++◌, [], List, length, map, subst, sym, ap, ap₂, ◌∙◌, arith}
use Rattle.std.specs.List.{range_with_len}
use Rattle.std.proofs.lemmas.List.FromFn.{length-map-range_with_len}
use Rattle.kc_page.specs.declared.page.Page.{Page}
use Rattle.kc_parts.specs.Booting.{boot_page}
use Rattle.kc_parts.specs.Chunks.{all_pages, AreChunks}
use Rattle.kc_parts.proofs.ChunkLists.{AreFull, no-chunks, all-full, full-then, one-more, more-pages, next-pages}
use Rattle.kc_parts.proofs.page_list.PageList.at_boot.Goals as goal

pub loop-first-init : goal.loop-first-init
loop-first-init c =
    let none = c.new-chunks.ensures.items in
    record {
      within = omega arith;
      all = ap all_pages none;
      are = subst (λ (chunks : List (List Page)). AreChunks chunks) (sym none) (all-full [] no-chunks);
      full = λ some. subst (λ (chunks : List (List Page)). AreFull chunks) (sym none) no-chunks;
    }

pub loop-first-preserved : goal.loop-first-preserved
loop-first-preserved c =
    let frames = c.frames-frames.result in
    let at = boot_page c.args.is_reserved c.args.config.now in
    let was = c.loop-first.invariant in
    let chunks = c.loop-first.chunks.items in
    let first = c.loop-first.first in
    let count = c.min-count.result in
    let chunk = c.in_ok-boot_chunk.field-0 in
    let more : first < frames = c.loop-first-test.true in
    let least = c.min-count.ensures in
    let pushed = c.in_ok-push.ensures.items in
    let long : length chunk ≡ count = ap length c.in_ok-boot_chunk.ensures ∙ length-map-range_with_len at first count in
    record {
      within = omega (arith, more, least);
      all = ap all_pages pushed ∙ more-pages chunks chunk ∙ ap₂ (λ (xs ys : List Page). xs ++ ys) was.all c.in_ok-boot_chunk.ensures ∙ next-pages at first count;
      are = subst (λ (chunks : List (List Page)). AreChunks chunks) (sym pushed) (full-then chunks chunk (was.full more) (omega (arith, long, least, more)) (omega (arith, long, least)));
      full = λ some. subst (λ (chunks : List (List Page)). AreFull chunks) (sym pushed) (one-more chunks chunk (was.full more) (omega (arith, long, least, some)));
    }

pub returns : goal.returns
returns c =
    let was = c.loop-first.invariant in
    let within = was.within in
    let frames = c.frames-frames.ensures.value in
    let done : c.loop-first.first ≡ c.args.config.now.frames = (let no = c.loop-first-test.false in omega (arith, no, within, frames)) in
    was.all ∙ ap (λ n. map (boot_page c.args.is_reserved c.args.config.now) (range_with_len 0 n)) done
