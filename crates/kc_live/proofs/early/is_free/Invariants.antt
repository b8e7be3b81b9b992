use Rattle.std.proofs.Common.{drop}
use Rattle.std.specs.Prelude.{◌↔◌}
use Rattle.kc_live.specs.Program.{NoneIs}
use Rattle.kc_live.specs.Program.{actors_of}
use Rattle.kc_live.proofs.early.is_free.Given as goal

abbrev pub invariant-loop-program : goal.invariant-loop-program
invariant-loop-program l = NoneIs l.actor (actors_of l.programs) ↔ NoneIs l.actor (actors_of (drop l.program-index l.programs))
