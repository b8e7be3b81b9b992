use Rattle.std.proofs.Common.{is_some, refl, ap, arith}
use Rattle.kc_model.specs.State.{Frame}
use Rattle.kc_model.specs.Effects.{granted}
use Rattle.kc_parts.proofs.Seen.{linked-kept}
use Rattle.kc_core.proofs.Frames.{changed, frame-is, places-page}
use Rattle.kc_core.proofs.shares.grant_frame.Goals as goal

pub overflow_add-page : goal.overflow_add-page
overflow_add-page c =
    let at = c.page_mut-page.ensures.value in
    let same = ap (λ (frame : Frame). frame.share) (frame-is c.args.config.now c.args.parts.now _ _ (c.requires.linked.frames c.args.frame (ap is_some at)) at) in
    let bound = c.requires.few in
    omega (arith, same, bound)

pub returns-clause-state : goal.returns-clause-state
returns-clause-state c =
    let at = c.page_mut-page.ensures.value in
    changed c.args.config.now c.args.parts.now _ _ _ granted (c.requires.linked.frames c.args.frame (ap is_some at)) at refl refl

pub returns-clause-linked : goal.returns-clause-linked
returns-clause-linked c = linked-kept _ _ _ _ _ c.requires.linked c.page_mut-page.ensures.value refl refl refl

pub returns-clause-places : goal.returns-clause-places
returns-clause-places c = places-page _ _ _ _ c.page_mut-page.ensures.value refl (λ away. refl)
