use Rattle.std.proofs.Common.{rules, ◌≡◌, ◌<◌, ◌≤◌, ◌/◌, ◌%◌, [], List, length, get_or, set, sym, ap, ◌∙◌, inr}
use Rattle.std.specs.Prelude.{slice_get}
use Rattle.std.specs.Option.{ghost_name_of}
use borrow.Follows.Closed.{read_of}
use Rattle.std.proofs.lemmas.List.{get_or_read_under, set-get_or}
use Rattle.kc_page.specs.declared.page.Page.{Page}
use Rattle.kc_parts.specs.Chunks.{all_pages}
use Rattle.kc_parts.proofs.ChunkLists.{page-in, page-past, page-set}
use Rattle.kc_parts.proofs.page_list.PageList.get_mut.Goals as goal

pub returns-then-number-len : goal.returns-then-number-len
returns-then-number-len c =
    let p = c.self.inside in
    let past : length p.chunks.items ≤ c.args.at / 16384 = search rules in
    (ap inr c.self.view_is, record { value = sym (ap (λ (ps : List Page). slice_get ps c.args.at) (sym c.self.view_is) ∙ page-past p.chunks.items c.args.at c.self.invariant.0 past); writes_back = tt })

pub returns : goal.returns
returns c =
    let p = c.self.inside in
    let k = c.args.at / 16384 in
    let j = c.args.at % 16384 in
    let low : k < length p.chunks.items = search rules in
    let under : k < p.chunks.len = search rules in
    let is : c.index_mut.result.now ≡ get_or p.chunks.items k [] = get_or_read_under p.chunks.items k p.chunks.len c.index_mut.result.now [] c.index_mut.ensures.value under p.chunks.ok.0 in
    rw (← c.self.view_is) (
      λ t. read_of (ghost_name_of c.get_mut.result)
          (λ (w : Page). (ap (λ (chunk : List Page). all_pages (set p.chunks.items k (set chunk j w))) is ∙ page-set p.chunks.items c.args.at w c.self.invariant.0 low) t)
          ((ap (λ (chunk : List Page). all_pages (set p.chunks.items k chunk)) is ∙ ap all_pages (set-get_or p.chunks.items k [])) t),
      record { value = c.get_mut.ensures.value ∙ ap (λ (ps : List Page). slice_get ps j) is ∙ sym (page-in p.chunks.items c.args.at c.self.invariant.0); writes_back = tt },
    )
