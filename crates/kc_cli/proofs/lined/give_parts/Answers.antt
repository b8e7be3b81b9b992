use Rattle.std.proofs.Common.{Result, Ok, Err, arith}
use Rattle.std.specs.Prelude.{OnErr}
use Rattle.kc_cli.proofs.Told.{part_cut}
use Rattle.kc_cli.proofs.lined.give_parts.Goals as goal

on_err : {T E P : Type 0} (r : Result T E) → P → OnErr r P
on_err (Ok x) h = tt
on_err (Err e) h = h

pub returns-in_err-write_whole-clause-begun : goal.returns-in_err-write_whole-clause-begun
returns-in_err-write_whole-clause-begun g c =
    on_err c.from_residual.result (part_cut _ _ _ c.args.parts.now c.loop-part.part-index _ (omega (arith, c.loop-part-test.true)) c.loop-part.invariant.given (rw c.as_bytes.ensures.value at c.in_err-write_whole.ensures.begun))
