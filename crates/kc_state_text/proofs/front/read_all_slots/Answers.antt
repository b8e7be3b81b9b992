use Rattle.std.proofs.Common.{arith}
use Rattle.std.specs.Prelude.{codes}
use Rattle.kc_state_text.specs.Refused.{IsSlotLine}
use Rattle.kc_state_text.specs.StateText.{slot_words, slot_line}
use Rattle.kc_state_text.proofs.Followed.{read-more, lines-fit}
use Rattle.kc_state_text.proofs.front.read_all_slots.Goals as goal

pub overflow_add-result : goal.overflow_add-result
overflow_add-result c =
    let fit = lines-fit IsSlotLine (codes "slot") slot_words c.loop-number.number c.args.text.now c.loop-number.slots.items c.loop-number.rest.now c.loop-number.invariant in
    omega (arith, fit, c.requires)

pub loop-number-preserved : goal.loop-number-preserved
loop-number-preserved c =
    rw c.in_ok-push.ensures.items (read-more IsSlotLine slot_line c.loop-number.number c.args.text.now c.loop-number.slots.items c.loop-number.rest.now c.in-Some.slot c.in-Some.more.now c.loop-number.invariant c.in-Some.ensures)
