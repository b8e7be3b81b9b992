use Rattle.std.proofs.Common.{◌-◌, ◌≡◌, length, refl, arith}
use Rattle.std.proofs.lemmas.Option.{slice_get_read}
use Rattle.std.specs.Prelude.{slice_get, Some}
use Rattle.kc_session.proofs.Traced.{line_after}
use Rattle.kc_session.proofs.session.Session.line.Goals as goal

pub returns : goal.returns
returns c =
    let after = line_after c.args.form c.args.self.now c.args.number (c.args.number - 1) (omega (arith, c.if-number-eq0.false)) in
    let there = (c.in-Some.ensures).lookup in
    let is : slice_get c.entries.result.now (c.args.number - 1) ≡ Some c.in-Some.entry.now =
    slice_get_read c.entries.result.now (length c.entries.result.now) (c.args.number - 1) c.in-Some.entry.now refl there.3.0 there.1 in
    rw (after, ← c.self.view_is, ← c.entries.ensures.entries, is, c.push_line.ensures, c.in_ok-told.ensures.items) refl
