use Rattle.std.proofs.Common.{◌<◌, length, get_or, ap, arith, ◌∙◌}
use Rattle.kc_parts.specs.Parts.{HeldSlots}
use Rattle.kc_parts.proofs.SlotMoves.{next-fits}
use Rattle.kc_parts.proofs.slots.VmSlots.take_from.Goals as goal

pub move_slot-requires : goal.move_slot-requires
move_slot-requires c = λ vm here.
    let ns = c.args.self.now.numbers in
    let at = c.loop-at.at in
    let n = c.index-number.result.now in
    let same = ap (λ (h : HeldSlots). h.numbers) c.self-in-loop-at.view_is ∙ c.loop-at.invariant.joined_places in
    let low : at < length ns = rw (← c.self.view_is) (let l = c.loop-at-test.true in let e = c.len-at-end.ensures in omega (arith, l, e, c.self.inside.numbers.ok.0)) in
    next-fits at n c.args.other.now c.args.self.now c.loop-at.other c.loop-at.self vm c.requires low (c.index-number.ensures ∙ ap (λ xs. get_or xs at n) same) c.loop-at.invariant here
