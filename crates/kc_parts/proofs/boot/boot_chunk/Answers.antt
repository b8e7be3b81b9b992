use Rattle.std.proofs.Common.{◌≡◌, true, false, List, length, ap, ◌∙◌, arith}
use Rattle.std.proofs.lemmas.List.FromFn.{length-map-range_with_len}
use Rattle.std.proofs.lemmas.Result.{IfOk-weaker}
use Rattle.kc_page.specs.declared.page.Page.{Page}
use Rattle.kc_parts.specs.declared.layout.Layout.{Layout}
use Rattle.kc_parts.specs.Booting.{boot_page}
use Rattle.kc_parts.specs.Chunks.{pages_at_boot}
use Rattle.kc_parts.proofs.Layouts.{pages-at-boot}
use Rattle.kc_parts.proofs.boot.boot_chunk.Goals as goal

pub of-requires : goal.of-requires
of-requires c =
    let small = c.requires.small in
    let long = ap (λ (pages : List Page). length pages) c.in_ok-pages.ensures ∙ length-map-range_with_len (boot_page true c.args.config.now) c.args.first c.args.count in
    omega (arith, small, long)

pub returns-else-is_reserved : goal.returns-else-is_reserved
returns-else-is_reserved c =
    let sparse : c.args.is_reserved ≡ false = c.if-is_reserved.false in
    rw sparse
    (IfOk-weaker c.at_boot.result _ _
    (λ chunk is. is ∙ ap (λ (layout : Layout). pages_at_boot layout c.args.first c.args.count) c.of-else-is_reserved.ensures.value ∙ pages-at-boot c.args.config.now c.args.first c.args.count c.requires.within)
    c.at_boot.ensures)
