use Rattle.std.proofs.Common.{◌+◌, Some, None, ap, ◌∙◌, arith}
use Rattle.kc_types.specs.declared.link.Ends.{Ends}
use Rattle.kc_links.specs.Chain.{with_link}
use Rattle.kc_links.proofs.Chains.{links_appended, ends_appended, chain-append, starting-count, leaves-list, leaves-frames}
use Rattle.kc_links.proofs.Steps.{tail-held, append-others, count-within}
use Rattle.kc_links.proofs.list.append.Goals as goal

pub point_forward-requires : goal.point_forward-requires
point_forward-requires g c = tail-held _ _ c.requires.list

pub overflow_add-ends : goal.overflow_add-ends
overflow_add-ends g c =
    let few = count-within _ _ (g.met.S.LinkStore.within c.args.store.now) c.requires.list in
    let same = ap (λ e. e.count) c.point_forward.ensures.ends ∙ starting-count c.args.ends.now c.args.ends.now.tail (Some c.args.frame) in
    omega (arith, few, same)

pub returns-clause-list : goal.returns-clause-list
returns-clause-list g c = leaves-list (links_appended (g.S.LinkStore.links c.args.store.now) c.args.ends.now c.args.frame) _ (ends_appended c.args.ends.now c.args.frame) _ _
    (c.set_link.ensures.links ∙ ap (λ links. with_link links c.args.frame (record { prev = c.args.ends.now.tail; next = None })) c.point_forward.ensures.links)
    (ap (λ (ends : Ends). record ends { tail = Some c.args.frame; count = ends.count + 1 }) c.point_forward.ensures.ends)
    (chain-append _ _ _ c.args.frame c.requires.list c.requires.apart)

pub returns-clause-frames : goal.returns-clause-frames
returns-clause-frames g c = leaves-frames (links_appended (g.S.LinkStore.links c.args.store.now) c.args.ends.now c.args.frame) _ (ends_appended c.args.ends.now c.args.frame) _ _
    (c.set_link.ensures.links ∙ ap (λ links. with_link links c.args.frame (record { prev = c.args.ends.now.tail; next = None })) c.point_forward.ensures.links)
    (ap (λ (ends : Ends). record ends { tail = Some c.args.frame; count = ends.count + 1 }) c.point_forward.ensures.ends)
    (chain-append _ _ _ c.args.frame c.requires.list c.requires.apart)

pub returns-clause-others : goal.returns-clause-others
returns-clause-others g c other none =
    ap (λ links. links other) (c.set_link.ensures.links ∙ ap (λ links. with_link links c.args.frame (record { prev = c.args.ends.now.tail; next = None })) c.point_forward.ensures.links)
    ∙ append-others _ _ c.args.frame c.requires.list other none
