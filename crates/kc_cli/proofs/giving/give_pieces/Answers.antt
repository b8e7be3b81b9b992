use Rattle.std.proofs.Common.{◌++◌, ◌∙◌, [], Result, Ok, Err, refl, sym, arith}
use Rattle.std.proofs.lemmas.Bool.{eqb-true}
use Rattle.std.proofs.lemmas.List.{nil_from_length}
use Rattle.std.specs.Prelude.{OnErr}
use Rattle.kc_cli.proofs.Told.{nothing_given, piece_given, piece_cut, all_given}
use Rattle.kc_cli.proofs.giving.give_pieces.Goals as goal

on_err : {T E P : Type 0} (r : Result T E) → P → OnErr r P
on_err (Ok x) h = tt
on_err (Err e) h = h

pub pieces-init : goal.pieces-init
pieces-init g c = record { given = ([], nothing_given _, refl); room = c.requires.room; mark = c.requires.out }

pub pieces-preserved : goal.pieces-preserved
pieces-preserved g c =
    let before = c.pieces.invariant.given in
    let more = piece_given _ _ _ before.0 _ _ _ _ before.1 (rw c.deref.ensures.value at c.in_ok-write_whole.ensures.ok) c.fill.ensures.given before.2 in
    record { given = (before.0 ++ c.fill.new.piece.items, more.0, more.1); room = c.fill.ensures.capacity; mark = c.in_ok-write_whole.ensures.mark }

pub returns-in_err-write_whole-clause-begun : goal.returns-in_err-write_whole-clause-begun
returns-in_err-write_whole-clause-begun g c =
    let before = c.pieces.invariant.given in
    on_err c.from_residual.result (piece_cut _ _ _ before.0 _ _ _ _ before.1 (rw c.deref.ensures.value at c.in_err-write_whole.ensures.begun) c.fill.ensures.given before.2)

pub returns-then-is_empty-clause-ok : goal.returns-then-is_empty-clause-ok
returns-then-is_empty-clause-ok g c =
    let before = c.pieces.invariant.given in
    let none = nil_from_length c.fill.new.piece.items (omega (arith, eqb-true _ _ (sym c.is_empty.ensures ∙ c.if-is_empty.true), c.fill.new.piece.ok.0)) in
    all_given _ _ before.0 _ _ before.1 (c.fill.ensures.some none) before.2
