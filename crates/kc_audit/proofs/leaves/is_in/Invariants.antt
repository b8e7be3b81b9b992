use Rattle.std.proofs.Common.{◌≡◌, drop}
use Rattle.kc_model.specs.Resources.{is_in}
use Rattle.kc_audit.proofs.leaves.is_in.Given as goal

abbrev pub invariant-loop-i : goal.invariant-loop-i
invariant-loop-i l = is_in l.numbers l.number ≡ is_in (drop l.i l.numbers) l.number
