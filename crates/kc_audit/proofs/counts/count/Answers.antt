use Rattle.std.proofs.Common.{arith}
use Rattle.kc_audit.specs.Findings.{list_owner}
use Rattle.kc_audit.proofs.Counted.{sum-low}
use Rattle.kc_audit.proofs.counts.count.Goals as goal

pub overflow_add-counts : goal.overflow_add-counts
overflow_add-counts c =
    let low = c.in-Some.ensures.low in
    let here = c.loop-i.invariant.counted c.in-Some.place (omega (arith, low)) in
    let sum = sum-low c.args.lines.now (list_owner c.in-Some.place) c.loop-i.i in
    let few = c.requires.few in
    let within = c.loop-i-test.true in omega (arith, here, sum, few, within)
