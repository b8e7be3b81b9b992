use Rattle.std.proofs.Common.{is_some, refl, ap}
use Rattle.kc_model.specs.Effects.{revoked}
use Rattle.kc_parts.proofs.Seen.{linked-kept}
use Rattle.kc_core.proofs.Frames.{changed, places-page}
use Rattle.kc_core.proofs.shares.revoke_frame.Goals as goal

pub returns-clause-state : goal.returns-clause-state
returns-clause-state c =
    let at = c.page_mut-page.ensures.value in
    changed c.args.config.now c.args.parts.now _ _ _ revoked (c.requires.linked.frames c.args.frame (ap is_some at)) at (rw c.revoked-page.ensures refl) (rw c.revoked-page.ensures refl)

pub returns-clause-linked : goal.returns-clause-linked
returns-clause-linked c = linked-kept _ _ _ _ _ c.requires.linked c.page_mut-page.ensures.value (rw c.revoked-page.ensures refl) (rw c.revoked-page.ensures refl) refl

pub returns-clause-places : goal.returns-clause-places
returns-clause-places c = places-page _ _ _ _ c.page_mut-page.ensures.value (rw c.revoked-page.ensures refl) (λ away. rw c.revoked-page.ensures refl)
