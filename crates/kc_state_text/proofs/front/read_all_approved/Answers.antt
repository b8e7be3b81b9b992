use Rattle.std.proofs.Common.{arith}
use Rattle.std.specs.Prelude.{codes}
use Rattle.kc_model.specs.Volumes.{IsDigest}
use Rattle.kc_state_text.specs.StateText.{approved_words, approved_line}
use Rattle.kc_state_text.proofs.Followed.{read-more, lines-fit}
use Rattle.kc_state_text.proofs.front.read_all_approved.Goals as goal

pub overflow_add-result : goal.overflow_add-result
overflow_add-result c =
    let fit = lines-fit IsDigest (codes "approved") approved_words c.loop-number.number c.args.text.now c.loop-number.digests.items c.loop-number.rest.now c.loop-number.invariant in
    omega (arith, fit, c.requires)

pub loop-number-preserved : goal.loop-number-preserved
loop-number-preserved c =
    rw c.in_ok-push.ensures.items (read-more IsDigest approved_line c.loop-number.number c.args.text.now c.loop-number.digests.items c.loop-number.rest.now c.in-Some.cut.0 c.in-Some.cut.1.now c.loop-number.invariant c.in-Some.ensures)
