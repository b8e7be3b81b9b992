use Rattle.std.proofs.Common.{arith, refl}
use Rattle.kc_lines.proofs.Values.{next_kept, next_cut}
use Rattle.kc_lines.proofs.reading.value_of.Goals as goal
use Rattle.kc_lines.proofs.reading.value_of.Goals.{then-value-gt-TOO_LARGE, else-value-gt-TOO_LARGE}

pub loop-i-preserved : goal.loop-i-preserved
loop-i-preserved c =
    elim c.if-value-gt-TOO_LARGE.branch [
      | then-value-gt-TOO_LARGE w ↦ rw w.value-is (next_cut c.args.word.now c.loop-i.i c.loop-i.value _ c.requires c.loop-i-test.true refl (omega (arith, w.if-value-gt-TOO_LARGE.true)) c.loop-i.invariant)
      | else-value-gt-TOO_LARGE w ↦ rw w.value-is (next_kept c.args.word.now c.loop-i.i c.loop-i.value _ c.requires c.loop-i-test.true refl (omega (arith, w.if-value-gt-TOO_LARGE.false)) c.loop-i.invariant)
    ]
