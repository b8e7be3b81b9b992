use Rattle.std.proofs.Common.{◌≡◌, ◌+◌, ◌-◌, ◌*◌, ◌/◌, ◌%◌, ◌<◌, min, vec_len, refl, arith}
use Rattle.kc_picture.proofs.Heights.{met-is}
use Rattle.kc_picture.proofs.outlines.raise.Goals as goal

pub returns-after-loop-column-clause-heights : goal.returns-after-loop-column-clause-heights
returns-after-loop-column-clause-heights c = λ i low.
    let count = vec_len c.args.heights.now in
    let lines = c.args.lines in
    let end = c.min-end.result in
    let column = c.loop-column.column in
    let within : i < c.len-count.result = omega (arith, low, c.loop-column.invariant.0, c.loop-column.heights.ok.0) in
    let below : i < count = rw (← c.len-count.ensures) within in
    let at_first : c.saturating_sub.result * c.len-count.result / lines ≡ (c.args.from - 1) * count / lines = rw (c.saturating_sub.ensures, c.from.ensures, c.len-count.ensures) refl in
    let at_end : end ≡ min ((c.args.to - 1) * count / lines + min 1 ((c.args.to - 1) * count % lines)) count = rw (c.min-end.ensures, c.div_ceil.ensures, c.from-then-from-to.ensures, c.len-count.ensures) refl in
    let met = met-is lines count c.args.from c.args.to i (c.saturating_sub.result * c.len-count.result / lines) end column c.requires.some below c.if-from-to.true at_first at_end c.loop-column-test.false c.loop-column.invariant.2 in
    rw met (c.loop-column.invariant.1 i within)
