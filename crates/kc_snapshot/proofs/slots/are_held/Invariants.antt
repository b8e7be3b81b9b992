use Rattle.std.proofs.Common.{take}
use Rattle.kc_snapshot.proofs.Mapped.{AreHeld}
use Rattle.kc_snapshot.proofs.slots.are_held.Given as goal

abbrev pub invariant-loop-entry : goal.invariant-loop-entry
invariant-loop-entry l = AreHeld l.images (take l.entry-index l.entries)
