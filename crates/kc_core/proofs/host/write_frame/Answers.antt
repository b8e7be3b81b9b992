use Rattle.std.proofs.Common.{◌≡◌, is_some, refl, ap, ◌∙◌, Err, arith}
use Rattle.kc_model.specs.State.{overwritten}
use Rattle.kc_page.specs.PageBytes.{Content}
use Rattle.kc_parts.specs.Parts.{with_page}
use Rattle.kc_parts.proofs.Pages.{page-same}
use Rattle.kc_parts.proofs.Seen.{linked-kept, page-reserved}
use Rattle.kc_core.proofs.Frames.{changed, places-page}
use Rattle.kc_core.proofs.host.write_frame.Goals as goal

pub returns-clause-state : goal.returns-clause-state
returns-clause-state c =
    let at = c.page_mut-page.ensures.value in
    changed c.args.config.now c.args.parts.now _ _ _ (λ frame. record frame { bytes = overwritten frame.bytes c.args.offset c.args.bytes.now }) (c.requires.linked.frames c.args.frame (ap is_some at)) at refl
    (rw (c.in_ok-write.ensures.ok, c.as_slice.ensures.value) refl)

pub returns-clause-linked : goal.returns-clause-linked
returns-clause-linked c = linked-kept _ _ _ _ _ c.requires.linked c.page_mut-page.ensures.value refl refl (ap (λ (page : Content). page.is_reserved) c.in_ok-write.ensures.ok)

pub returns-clause-places : goal.returns-clause-places
returns-clause-places c = places-page _ _ _ _ c.page_mut-page.ensures.value refl (λ away. refl)

pub returns-in_err-write-clause-linked : goal.returns-in_err-write-clause-linked
returns-in_err-write-clause-linked c = linked-kept _ _ _ _ _ c.requires.linked c.page_mut-page.ensures.value refl refl (ap (λ (page : Content). page.is_reserved) c.in_err-write.ensures.err)

pub returns-in_err-write-clause-places : goal.returns-in_err-write-clause-places
returns-in_err-write-clause-places c = places-page _ _ _ _ c.page_mut-page.ensures.value refl (λ away. refl)

pub returns-in_err-write-clause-err : goal.returns-in_err-write-clause-err
returns-in_err-write-clause-err c =
    let page = c.page_mut-page.result.now in
    let is : c.from_residual.result ≡ Err c.in_err-write.field-0.0 = grind arith in
    rw is (ap (λ bytes. with_page c.args.parts.now c.args.frame (record page { bytes = bytes })) c.in_err-write.ensures.err
    ∙ page-same c.args.parts.now c.args.frame page c.page_mut-page.ensures.value)

pub returns-in_err-write-clause-reserved : goal.returns-in_err-write-clause-reserved
returns-in_err-write-clause-reserved c = λ reserved.
    let made = c.in_err-write.ensures.reserved (page-reserved c.args.parts.now c.args.frame c.page_mut-page.result.now c.requires.linked.room reserved c.page_mut-page.ensures.value) in
    cc
