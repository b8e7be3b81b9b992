use Rattle.std.proofs.Common.{take}
use Rattle.kc_model.specs.Lawful.{Apart}
use Rattle.kc_vms.proofs.judging.are_apart.Given as goal

abbrev pub invariant-loop-i : goal.invariant-loop-i
invariant-loop-i l = Apart (take l.i l.images)
