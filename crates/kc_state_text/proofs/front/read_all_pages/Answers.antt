use Rattle.std.proofs.Common.{arith}
use Rattle.std.specs.Prelude.{codes}
use Rattle.kc_model.specs.Lawful.{IsPage}
use Rattle.kc_state_text.specs.StateText.{page_words, page_line}
use Rattle.kc_state_text.proofs.Followed.{read-more, lines-fit}
use Rattle.kc_state_text.proofs.front.read_all_pages.Goals as goal

pub overflow_add-result : goal.overflow_add-result
overflow_add-result c =
    let fit = lines-fit IsPage (codes "page") page_words c.loop-number.number c.args.text.now c.loop-number.pages c.loop-number.rest.now c.loop-number.invariant in
    omega (arith, fit, c.requires)

pub loop-number-preserved : goal.loop-number-preserved
loop-number-preserved c =
    let found = rw c.in-Some.is at c.in_ok-more.ensures in
    rw found.2 (read-more IsPage page_line c.loop-number.number c.args.text.now c.loop-number.pages c.loop-number.rest.now found.0 c.in-Some.more.now c.loop-number.invariant found.1)
