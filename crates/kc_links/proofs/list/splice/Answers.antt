use Rattle.std.proofs.Common.{◌+◌, ◌++◌, Some, sym, ap, ◌∙◌, arith, append-nil}
use Rattle.kc_types.specs.declared.link.Ends.{Ends}
use Rattle.kc_links.specs.Chain.{pointing_forward, pointing_back}
use Rattle.kc_links.specs.Ending.{listed, starting}
use Rattle.kc_links.proofs.Chains.{links_spliced, ends_spliced, list-splice, list-none, leaves-list, leaves-frames, starting-count}
use Rattle.kc_links.proofs.Steps.{tail-held, inside-held, head-inside, forward-held, count-within, splice-others}
use Rattle.kc_links.proofs.list.splice.Goals as goal

pub point_forward-requires : goal.point_forward-requires
point_forward-requires g c = tail-held _ _ c.requires.list

pub point_back-requires : goal.point_back-requires
point_back-requires g c = rw c.point_forward.ensures.links (forward-held _ c.args.to.now.tail (Some c.in-Some.first) c.in-Some.first
    (inside-held _ _ c.in-Some.first c.requires.other_list (head-inside _ _ c.in-Some.first c.requires.other_list c.in-Some.is)))

pub overflow_add-to : goal.overflow_add-to
overflow_add-to g c =
    let few = count-within _ _ (g.met.S.LinkStore.within c.args.store.now) c.requires.list in
    let few_more = count-within _ _ (g.met.S.LinkStore.within c.args.store.now) c.requires.other_list in
    let same = ap (λ e. e.count) c.point_forward.ensures.ends ∙ starting-count c.args.to.now c.args.to.now.tail (Some c.in-Some.first) in
    let same_from = ap (λ e. e.count) c.point_back.ensures.ends in
    omega (arith, few, few_more, same, same_from)

pub returns-in-Some-clause-list : goal.returns-in-Some-clause-list
returns-in-Some-clause-list g c = leaves-list (links_spliced (g.S.LinkStore.links c.args.store.now) c.args.to.now c.args.from.now) _ (ends_spliced c.args.to.now c.args.from.now) _ _
    (c.point_back.ensures.links ∙ ap (λ links. pointing_back links (Some c.in-Some.first) c.args.to.now.tail) c.point_forward.ensures.links
    ∙ ap (λ first. pointing_back (pointing_forward (g.S.LinkStore.links c.args.store.now) c.args.to.now.tail first) first c.args.to.now.tail) (sym c.in-Some.is))
    (ap (λ (ends : Ends). record ends { tail = c.point_back.new.ends.tail; count = ends.count + c.point_back.new.ends.count }) c.point_forward.ensures.ends
    ∙ ap (λ (ends : Ends). record (starting c.args.to.now c.args.to.now.tail (Some c.in-Some.first)) { tail = ends.tail; count = (starting c.args.to.now c.args.to.now.tail (Some c.in-Some.first)).count + ends.count }) c.point_back.ensures.ends
    ∙ ap (λ first. record (starting c.args.to.now c.args.to.now.tail first) { tail = c.args.from.now.tail; count = (starting c.args.to.now c.args.to.now.tail first).count + c.args.from.now.count }) (sym c.in-Some.is))
    (list-splice _ _ _ c.in-Some.first c.requires.list c.requires.other_list c.requires.apart c.in-Some.is)

pub returns-in-Some-clause-frames : goal.returns-in-Some-clause-frames
returns-in-Some-clause-frames g c = leaves-frames (links_spliced (g.S.LinkStore.links c.args.store.now) c.args.to.now c.args.from.now) _ (ends_spliced c.args.to.now c.args.from.now) _ _
    (c.point_back.ensures.links ∙ ap (λ links. pointing_back links (Some c.in-Some.first) c.args.to.now.tail) c.point_forward.ensures.links
    ∙ ap (λ first. pointing_back (pointing_forward (g.S.LinkStore.links c.args.store.now) c.args.to.now.tail first) first c.args.to.now.tail) (sym c.in-Some.is))
    (ap (λ (ends : Ends). record ends { tail = c.point_back.new.ends.tail; count = ends.count + c.point_back.new.ends.count }) c.point_forward.ensures.ends
    ∙ ap (λ (ends : Ends). record (starting c.args.to.now c.args.to.now.tail (Some c.in-Some.first)) { tail = ends.tail; count = (starting c.args.to.now c.args.to.now.tail (Some c.in-Some.first)).count + ends.count }) c.point_back.ensures.ends
    ∙ ap (λ first. record (starting c.args.to.now c.args.to.now.tail first) { tail = c.args.from.now.tail; count = (starting c.args.to.now c.args.to.now.tail first).count + c.args.from.now.count }) (sym c.in-Some.is))
    (list-splice _ _ _ c.in-Some.first c.requires.list c.requires.other_list c.requires.apart c.in-Some.is)

pub returns-in-Some-clause-others : goal.returns-in-Some-clause-others
returns-in-Some-clause-others g c other none = ap (λ links. links other)
    (c.point_back.ensures.links ∙ ap (λ links. pointing_back links (Some c.in-Some.first) c.args.to.now.tail) c.point_forward.ensures.links
    ∙ ap (λ first. pointing_back (pointing_forward (g.S.LinkStore.links c.args.store.now) c.args.to.now.tail first) first c.args.to.now.tail) (sym c.in-Some.is))
    ∙ splice-others _ _ _ c.requires.list c.requires.other_list other none

pub returns-in_default-clause-frames : goal.returns-in_default-clause-frames
returns-in_default-clause-frames g c = let none = list-none _ _ c.requires.other_list c.in_default.is in sym (ap (λ l. listed (g.S.LinkStore.links c.args.store.now) c.args.to.now ++ l) none ∙ append-nil _)
