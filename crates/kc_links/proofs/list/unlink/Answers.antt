use Rattle.std.proofs.Common.{◌-◌, sym, ap, ◌∙◌}
use Rattle.kc_types.specs.declared.link.Ends.{Ends}
use Rattle.kc_links.specs.Chain.{unlinked, with_link, pointing_back}
use Rattle.kc_links.specs.Ending.{stopping}
use Rattle.kc_links.proofs.Chains.{links_unlinked, ends_unlinked, list-unlink, leaves-list, leaves-frames}
use Rattle.kc_links.proofs.Steps.{inside-held, prev-held, next-held, unlink-others}
use Rattle.kc_links.proofs.list.unlink.Goals as goal

pub unwrap-link-requires : goal.unwrap-link-requires
unwrap-link-requires g c = rw c.link.ensures (inside-held _ _ c.args.frame c.requires.list c.requires.inside)

pub point_forward-requires : goal.point_forward-requires
point_forward-requires g c = prev-held _ _ c.args.frame c.unwrap-link.result c.requires.list c.requires.inside (sym c.link.ensures ∙ c.unwrap-link.ensures)

pub point_back-requires : goal.point_back-requires
point_back-requires g c = rw c.point_forward.ensures.links (next-held _ _ c.args.frame c.unwrap-link.result c.requires.list c.requires.inside (sym c.link.ensures ∙ c.unwrap-link.ensures))

pub returns-clause-list : goal.returns-clause-list
returns-clause-list g c = let link = c.unwrap-link.result in leaves-list (links_unlinked (g.S.LinkStore.links c.args.store.now) c.args.frame link) _ (ends_unlinked c.args.ends.now link) _ _
    (c.set_link.ensures.links ∙ ap (λ links. with_link links c.args.frame unlinked) (c.point_back.ensures.links ∙ ap (λ links. pointing_back links link.next link.prev) c.point_forward.ensures.links))
    (ap (λ (ends : Ends). record ends { count = ends.count - 1 }) (c.point_back.ensures.ends ∙ ap (λ (ends : Ends). stopping ends link.next link.prev) c.point_forward.ensures.ends))
    (list-unlink _ _ c.args.frame link c.requires.list c.requires.inside (sym c.link.ensures ∙ c.unwrap-link.ensures))

pub returns-clause-frames : goal.returns-clause-frames
returns-clause-frames g c = let link = c.unwrap-link.result in leaves-frames (links_unlinked (g.S.LinkStore.links c.args.store.now) c.args.frame link) _ (ends_unlinked c.args.ends.now link) _ _
    (c.set_link.ensures.links ∙ ap (λ links. with_link links c.args.frame unlinked) (c.point_back.ensures.links ∙ ap (λ links. pointing_back links link.next link.prev) c.point_forward.ensures.links))
    (ap (λ (ends : Ends). record ends { count = ends.count - 1 }) (c.point_back.ensures.ends ∙ ap (λ (ends : Ends). stopping ends link.next link.prev) c.point_forward.ensures.ends))
    (list-unlink _ _ c.args.frame link c.requires.list c.requires.inside (sym c.link.ensures ∙ c.unwrap-link.ensures))

pub returns-clause-others : goal.returns-clause-others
returns-clause-others g c other none = let link = c.unwrap-link.result in
    ap (λ links. links other) (c.set_link.ensures.links ∙ ap (λ links. with_link links c.args.frame unlinked) (c.point_back.ensures.links ∙ ap (λ links. pointing_back links link.next link.prev) c.point_forward.ensures.links))
    ∙ unlink-others _ _ c.args.frame link c.requires.list c.requires.inside (sym c.link.ensures ∙ c.unwrap-link.ensures) other none
