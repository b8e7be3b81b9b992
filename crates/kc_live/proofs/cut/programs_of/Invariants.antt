use Rattle.kc_live.specs.Cuts.{IsCut}
use Rattle.kc_live.proofs.cut.programs_of.Given as goal

abbrev pub invariant-loop-call : goal.invariant-loop-call
invariant-loop-call l = IsCut l.yielded l.programs.items
