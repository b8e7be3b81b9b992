use Rattle.std.proofs.Common.{Result, Ok, Err}
use Rattle.std.specs.Prelude.{OnErr}
use Rattle.std.specs.List.{flat_map}
use Rattle.std.proofs.lemmas.Result.{on_ok_weaker, on_err_weaker}
use Rattle.kc_trace.specs.CustodyText.{placed_text}
use Rattle.kc_cli.proofs.Told.{both_given, first_cut, second_cut}
use Rattle.kc_cli.proofs.lined.give_text.Goals as goal

on_err : {T E P : Type 0} (r : Result T E) → P → OnErr r P
on_err (Ok x) h = tt
on_err (Err e) h = h

pub returns-in_err-give_placed-clause-begun : goal.returns-in_err-give_placed-clause-begun
returns-in_err-give_placed-clause-begun g c =
    let lines = flat_map (λ x. placed_text c.args.volumes.now (g.L.Placed.place x) (g.L.Line.line x)) c.args.lines.items in
    on_err c.from_residual.result (first_cut _ _ c.args.frame.piece.items lines c.args.frame.end.items c.in_err-give_placed.ensures.begun)

pub returns-clause-ok : goal.returns-clause-ok
returns-clause-ok g c =
    let lines = flat_map (λ x. placed_text c.args.volumes.now (g.L.Placed.place x) (g.L.Line.line x)) c.args.lines.items in
    on_ok_weaker c.write_whole.result (λ more. both_given _ _ _ c.args.frame.piece.items lines c.args.frame.end.items c.in_ok-give_placed.ensures.ok more) (rw c.deref.ensures.value at c.write_whole.ensures.ok)

pub returns-clause-begun : goal.returns-clause-begun
returns-clause-begun g c =
    let lines = flat_map (λ x. placed_text c.args.volumes.now (g.L.Placed.place x) (g.L.Line.line x)) c.args.lines.items in
    on_err_weaker c.write_whole.result (λ cut. second_cut _ _ _ c.args.frame.piece.items lines c.args.frame.end.items c.in_ok-give_placed.ensures.ok cut) (rw c.deref.ensures.value at c.write_whole.ensures.begun)
