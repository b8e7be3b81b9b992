use Rattle.std.proofs.Common.{[], ◌++◌, Result, Ok, Err}
use Rattle.std.proofs.KnownBytes.{Appends-trans}
use Rattle.std.specs.Prelude.{OnErr}
use Rattle.std.proofs.lemmas.Result.{on_ok_weaker, on_err_weaker}
use Rattle.kc_html.specs.Html.{html_head, html_tail}
use Rattle.kc_cli.specs.Ledgers.{framed_text}
use Rattle.kc_cli.proofs.Told.{both_given, first_cut, second_cut}
use Rattle.kc_cli.proofs.lined.give_page.Goals as goal

on_err : {T E P : Type 0} (r : Result T E) → P → OnErr r P
on_err (Ok x) h = tt
on_err (Err e) h = h

pub returns-in_err-write_whole-clause-begun : goal.returns-in_err-write_whole-clause-begun
returns-in_err-write_whole-clause-begun g c =
    let lines = framed_text g.L.Placed.place g.L.Line.line c.args.frame.piece.items c.args.volumes.now c.args.lines.items c.args.frame.end.items in
    let cut = rw c.as_bytes.ensures.value at c.in_err-write_whole.ensures.begun in
    on_err c.from_residual.result (first_cut _ _ [] html_head (lines ++ html_tail) cut)

pub returns-in_err-give_text-clause-begun : goal.returns-in_err-give_text-clause-begun
returns-in_err-give_text-clause-begun g c =
    let lines = framed_text g.L.Placed.place g.L.Line.line c.args.frame.piece.items c.args.volumes.now c.args.lines.items c.args.frame.end.items in
    let head = rw c.as_bytes.ensures.value at c.in_ok-write_whole.ensures.ok in
    let cut = second_cut _ _ _ [] html_head lines head c.in_err-give_text.ensures.begun in
    on_err c.from_residual-in_err-give_text.result (first_cut _ _ html_head lines html_tail cut)

pub returns-clause-ok : goal.returns-clause-ok
returns-clause-ok g c =
    let lines = framed_text g.L.Placed.place g.L.Line.line c.args.frame.piece.items c.args.volumes.now c.args.lines.items c.args.frame.end.items in
    let head = rw c.as_bytes.ensures.value at c.in_ok-write_whole.ensures.ok in
    let both = Appends-trans _ _ _ html_head lines head c.in_ok-give_text.ensures.ok in
    on_ok_weaker c.give_parts.result (λ more. both_given _ _ _ html_head lines html_tail both more) c.give_parts.ensures.ok

pub returns-clause-begun : goal.returns-clause-begun
returns-clause-begun g c =
    let lines = framed_text g.L.Placed.place g.L.Line.line c.args.frame.piece.items c.args.volumes.now c.args.lines.items c.args.frame.end.items in
    let head = rw c.as_bytes.ensures.value at c.in_ok-write_whole.ensures.ok in
    let both = Appends-trans _ _ _ html_head lines head c.in_ok-give_text.ensures.ok in
    on_err_weaker c.give_parts.result (λ cut. second_cut _ _ _ html_head lines html_tail both cut) c.give_parts.ensures.begun
