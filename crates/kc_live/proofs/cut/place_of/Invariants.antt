use Rattle.std.proofs.Common.{take}
use Rattle.kc_live.specs.Program.{NoneIs, actors_of}
use Rattle.kc_live.proofs.cut.place_of.Given as goal

abbrev pub invariant-loop-i : goal.invariant-loop-i
invariant-loop-i l = NoneIs l.actor (actors_of (take l.i l.programs))
