use Rattle.std.proofs.Common.{rules, ◌≡◌, ◌<◌, ◌≤◌, ◌/◌, ◌%◌, [], List, length, get_or, sym, ap, ◌∙◌}
use Rattle.std.specs.Prelude.{slice_get}
use Rattle.std.proofs.lemmas.List.{get_or_read_under}
use Rattle.kc_page.specs.declared.page.Page.{Page}
use Rattle.kc_parts.proofs.ChunkLists.{page-in, page-past}
use Rattle.kc_parts.proofs.page_list.PageList.get.Goals as goal

pub returns-then-number-len : goal.returns-then-number-len
returns-then-number-len c =
    let p = c.self.inside in
    let past : length p.chunks.items ≤ c.args.at / 16384 = search rules in
    sym (ap (λ (ps : List Page). slice_get ps c.args.at) (sym c.self.view_is) ∙ page-past p.chunks.items c.args.at c.self.invariant.0 past)

pub returns : goal.returns
returns c =
    let p = c.self.inside in
    let low : c.args.at / 16384 < p.chunks.len = search rules in
    let is : c.index.result.now ≡ get_or p.chunks.items (c.args.at / 16384) [] = get_or_read_under p.chunks.items (c.args.at / 16384) p.chunks.len c.index.result.now [] c.index.ensures low p.chunks.ok.0 in
    c.get.ensures ∙ ap (λ (ps : List Page). slice_get ps (c.args.at % 16384)) is ∙ sym (page-in p.chunks.items c.args.at c.self.invariant.0) ∙ ap (λ (ps : List Page). slice_get ps c.args.at) c.self.view_is
