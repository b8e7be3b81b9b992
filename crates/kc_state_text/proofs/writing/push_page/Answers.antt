use Rattle.std.proofs.Common.{◌≡◌, true, false, ◌∙◌, arith}
use Rattle.std.proofs.lemmas.Grind.{common_steps}
use Rattle.kc_state_text.specs.StateText.{is_zero}
use Rattle.kc_state_text.proofs.PageWords.{zero-blank, zero-tested}
use Rattle.kc_state_text.proofs.writing.push_page.Goals.{then-is_zero, else-is_zero}
use Rattle.kc_state_text.proofs.writing.push_page.Goals as goal

pub returns-clause-items : goal.returns-clause-items
returns-clause-items c =
    let page = c.args.page.now.bytes in
    elim c.if-is_zero.branch [
      | then-is_zero w ↦
          let blank : is_zero page ≡ true = zero-blank page (c.is_zero.ensures.0 w.if-is_zero.true) in
          grind (arith, common_steps, blank)
      | else-is_zero w ↦
          let some : is_zero page ≡ false = zero-tested page c.is_zero.result w.as_slice.ensures.whole c.is_zero.ensures ∙ w.if-is_zero.false in
          grind (arith, common_steps, some)
    ]
