use Rattle.std.proofs.Common.{take}
use Rattle.kc_parts.specs.Moves.{AreMoved}
use Rattle.kc_parts.proofs.slots.VmSlots.put_back.Given as goal

abbrev pub invariant-loop-at : goal.invariant-loop-at
invariant-loop-at l = AreMoved (take l.at l.initial.other.numbers) l.initial.other l.initial.self l.other l.self
