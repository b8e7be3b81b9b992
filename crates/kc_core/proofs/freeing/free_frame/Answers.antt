use Rattle.std.proofs.Common.{is_some, refl, sym, ap, ◌∙◌}
use Rattle.kc_page.specs.PageBytes.{Content}
use Rattle.kc_parts.specs.States.{frame_in}
use Rattle.kc_parts.proofs.Pages.{page-set}
use Rattle.kc_parts.proofs.Seen.{linked-moved}
use Rattle.kc_core.proofs.Frames.{places-page, places-move, places-through}
use Rattle.kc_core.proofs.Hosts.{loose-page}
use Rattle.kc_core.proofs.Drops.{state-freed}
use Rattle.kc_core.proofs.freeing.free_frame.Goals as goal

pub append_free-requires-clause-lists : goal.append_free-requires-clause-lists
append_free-requires-clause-lists c = (linked-moved c.args.config.now _ _ _ _ c.requires.linked c.page_mut-page.ensures.value refl c.requires.loose.absent (λ host. c.requires.loose.alone) (ap (λ (page : Content). page.is_reserved) c.scrub.ensures)).lists

pub append_free-requires-clause-loose : goal.append_free-requires-clause-loose
append_free-requires-clause-loose c = loose-page _ _ _ _ c.page_mut-page.ensures.value refl c.requires.loose

pub append_free-requires-clause-free : goal.append_free-requires-clause-free
append_free-requires-clause-free c = ap (λ there. (frame_in there).owner) (page-set c.args.parts.now c.args.frame c.page_mut-page.result.now _ c.page_mut-page.ensures.value) ∙ c.of-page.ensures

pub returns-clause-state : goal.returns-clause-state
returns-clause-state c =
    let at = c.page_mut-page.ensures.value in
    state-freed _ c.args.parts.now c.append_free.new.self _ _ _ (c.requires.linked.frames c.args.frame (ap is_some at)) at refl (rw (c.of-page.ensures, c.of-page-2.ensures, c.scrub.ensures) refl) c.append_free.ensures.rest c.append_free.ensures.frames

pub returns-clause-linked : goal.returns-clause-linked
returns-clause-linked c = c.append_free.ensures.rest.linked _ (linked-moved _ _ _ _ _ c.requires.linked c.page_mut-page.ensures.value refl c.requires.loose.absent (λ host. c.requires.loose.alone) (ap (λ (page : Content). page.is_reserved) c.scrub.ensures))

pub returns-clause-places : goal.returns-clause-places
returns-clause-places c = places-through _ _ _ (places-page _ _ _ _ c.page_mut-page.ensures.value refl (λ away. let no = sym c.requires.near ∙ away in cc)) (places-move _ _ c.append_free.ensures.rest)
