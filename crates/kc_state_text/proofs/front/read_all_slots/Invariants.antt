use Rattle.kc_state_text.specs.Refused.{IsSlotLine}
use Rattle.kc_state_text.specs.StateText.{slot_line}
use Rattle.kc_state_text.specs.Reading.{AreRead}
use Rattle.kc_state_text.proofs.front.read_all_slots.Given as goal

-- those so far
abbrev pub invariant-loop-number : goal.invariant-loop-number
invariant-loop-number l = AreRead IsSlotLine slot_line l.number l.text l.slots.items l.rest
