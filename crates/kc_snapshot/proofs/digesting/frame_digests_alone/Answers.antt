use Rattle.std.proofs.Common.{refl, ap, ◌∙◌, arith}
use Rattle.sha2.specs.Sha256.{sha256}
use Rattle.kc_model.specs.State.{frame_at}
use Rattle.kc_snapshot.specs.Form.{in_form}
use Rattle.kc_snapshot.proofs.InForm.{long_in}
use Rattle.kc_snapshot.proofs.Made.{more, digests-ranged}
use Rattle.kc_snapshot.proofs.digesting.frame_digests_alone.Goals as goal

pub loop-number-preserved : goal.loop-number-preserved
loop-number-preserved c =
    let n = in_form c.args.form c.args.core.now.state in
    more (λ f. sha256 (frame_at n f).bytes) c.loop-number.number c.loop-number.number c.loop-number.digests.items _ _ c.loop-number.invariant c.in_ok-push.ensures.items (c.page_digest.ensures ∙ ap sha256 c.bytes_in-page.ensures) refl

pub returns : goal.returns
returns c =
    let m = c.args.core.now.state in
    let end = c.frames-number-end.ensures.value in
    let same = ap (λ x. x.frames) c.config-2.ensures.value in
    let long = c.config-2.ensures.lawful.frames in
    let here = long_in c.args.form m in
    let most = c.loop-number.auto.number-end in
    let last = c.loop-number-test.false in
    c.loop-number.invariant ∙ digests-ranged (in_form c.args.form m) c.loop-number.number (omega (arith, end, same, long, here, most, last))
