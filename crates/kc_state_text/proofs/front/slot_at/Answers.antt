use Rattle.std.specs.Prelude.{codes}
use Rattle.kc_state_text.specs.Refused.{IsSlotLine}
use Rattle.kc_state_text.specs.StateText.{slot_words}
use Rattle.kc_state_text.proofs.Lines.{none-unread, begins}
use Rattle.kc_state_text.proofs.Spelled.{slot-are-words}
use Rattle.kc_state_text.proofs.front.slot_at.Goals as goal

pub returns-in_err-read_slot : goal.returns-in_err-read_slot
returns-in_err-read_slot c =
    rw c.from_residual-in_err-read_slot.ensures
    (none-unread IsSlotLine (codes "slot") slot_words slot-are-words c.args.text.now c.in_ok-line.line.now c.in_ok-line.rest.now c.in_ok-line.ensures.0 c.in_ok-line.ensures.1 c.in_err-read_slot.ensures)

pub returns : goal.returns
returns c = begins IsSlotLine (codes "slot") slot_words slot-are-words c.args.text.now c.in_ok-line.line.now c.in_ok-line.rest.now c.in_ok-read_slot.field-0 c.in_ok-line.ensures.1 c.in_ok-read_slot.ensures
