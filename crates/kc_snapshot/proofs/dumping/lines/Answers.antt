use Rattle.std.proofs.Common.{◌<◌, length, refl, ap, ◌∙◌, arith}
use Rattle.kc_model.specs.State.{frame_at}
use Rattle.kc_model.specs.Links.{link_at}
use Rattle.kc_page.specs.Page.{IsRecordOf}
use Rattle.kc_snapshot.specs.Dumping.{frame_line}
use Rattle.kc_snapshot.specs.Form.{in_form}
use Rattle.kc_snapshot.proofs.InForm.{record_in, long_in}
use Rattle.kc_snapshot.proofs.Made.{more, line-made, digest-at}
use Rattle.kc_snapshot.proofs.dumping.lines.Goals as goal

pub loop-number-preserved : goal.loop-number-preserved
loop-number-preserved c =
    let m = c.args.core.now.state in
    let form = c.args.digests.now.form in
    let told = in_form form m in
    let n = c.loop-number.number in
    let is : IsRecordOf m n c.unwrap-meta.result = rw c.unwrap-meta.ensures at c.page_record.ensures.value in
    let end = c.frames-number-end.ensures.value in
    let same = ap (λ x. x.frames) c.config.ensures.value in
    let before = c.loop-number-test.true in
    let long = c.config.ensures.lawful.frames in
    let here = long_in form m in
    let low : n < length told.frames = omega (arith, end, same, before, long, here) in
    more (λ f. frame_line (frame_at told f) (link_at told f)) n n c.loop-number.lines.items _ _ c.loop-number.invariant c.in_ok-push.ensures.items
    (rw (c.get.ensures, c.from.ensures, c.get-in-loop-number.ensures, c.get-in-loop-number-2.ensures, c.get-in-loop-number-3.ensures) (line-made told n c.unwrap-meta.result _ (record_in form m n c.unwrap-meta.result is) (digest-at told c.as_slice-each.result.now n _ (c.as_slice-each.ensures.value ∙ c.requires) low))) refl
