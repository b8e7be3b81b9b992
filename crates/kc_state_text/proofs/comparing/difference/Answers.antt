use Rattle.std.proofs.Common.{◌≡◌, ◌+◌, ◌-◌, ◌++◌, ◌∙◌, ap, sym, length, length-append, append_assoc, arith}
use Rattle.kc_state_text.specs.Pieces.{to_come}
use Rattle.kc_state_text.specs.Differences.{PartAfter}
use Rattle.kc_state_text.proofs.Differing.{part-later}
use Rattle.kc_state_text.proofs.comparing.difference.Goals as goal

pub pieces-preserved : goal.pieces-preserved
pieces-preserved c =
    let before = c.pieces.invariant.same in
    let piece = c.fill.new.piece.items in
    let cut : c.pieces.rest.now ≡ piece ++ c.in-Ok.more.now = c.in-Ok.ensures ∙ ap (λ bytes. bytes ++ c.in-Ok.more.now) c.as_slice.ensures.value in
    record {
      same = (
        before.0 ++ piece,
        before.1 ∙ ap (λ rest. before.0 ++ rest) cut ∙ sym (append_assoc before.0 piece c.in-Ok.more.now),
        before.2 ∙ ap (λ rest. before.0 ++ rest) (sym c.fill.ensures.given) ∙ sym (append_assoc before.0 piece (to_come c.args.core.now.state c.fill.new.self)),
      );
      room = c.fill.ensures.capacity;
    }

pub returns-in-Err : goal.returns-in-Err
returns-in-Err c =
    let before = c.pieces.invariant.same in
    let come = to_come c.args.core.now.state c.fill.new.self in
    let left : c.as_slice.result.now ++ come ≡ to_come c.args.core.now.state c.pieces.pieces = ap (λ bytes. bytes ++ come) c.as_slice.ensures.value ∙ c.fill.ensures.given in
    let long = ap length before.1 ∙ length-append before.0 c.pieces.rest.now in
    let given : length c.args.text.now - length c.pieces.rest.now ≡ length before.0 = omega (arith, long) in
    rw (given, before.1, before.2, ← left) (part-later before.0 c.pieces.rest.now _ c.in-Err.count (c.in-Err.ensures come))
