use Rattle.kc_picture.proofs.Noted.{AreNoted}
use Rattle.kc_picture.proofs.stretches.bars_from_changes.Given as goal

abbrev pub invariant-loop-i : goal.invariant-loop-i
invariant-loop-i l = AreNoted l.frames l.end l.i l.events l.bars.items l.next.items
