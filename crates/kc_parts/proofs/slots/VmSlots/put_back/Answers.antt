use Rattle.std.proofs.Common.{◌≤◌, length, arith}
use Rattle.kc_parts.proofs.SlotMoves.{all-moved}
use Rattle.kc_parts.proofs.slots.VmSlots.put_back.Goals as goal

pub returns-clause-joined : goal.returns-clause-joined
returns-clause-joined c =
    let low : length c.args.other.numbers ≤ c.loop-at.at = rw (← c.other.view_is) (let l = c.loop-at-test.false in let e = c.len-at-end.ensures in omega (arith, l, e, c.other.inside.numbers.ok.0)) in
    all-moved c.loop-at.at c.args.other c.args.self.now c.loop-at.other c.loop-at.self low c.loop-at.invariant
