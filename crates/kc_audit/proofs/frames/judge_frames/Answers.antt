use Rattle.std.proofs.Common.{length, length-set, refl, ap, ◌∙◌, arith}
use Rattle.kc_audit.proofs.Judged.{judged-more}
use Rattle.kc_audit.proofs.frames.judge_frames.Goals as goal

pub loop-i-preserved : goal.loop-i-preserved
loop-i-preserved c =
    let d = c.args.dump.now in
    let count = c.loop-i.invariant.count in
    let low = c.loop-i-test.true in
    let room = c.requires.within in
    let long = ap (λ ls. length ls) c.frames-lines.ensures.value in
    record {
      count = length-set c.loop-i.out c.loop-i.i c.judge.result ∙ count;
      judged = judged-more d c.args.marks.now c.requires.marks c.frames-lines.result.now c.args.start c.loop-i.i _ c.loop-i.out c.index-lines-frame.result c.judge.result
          c.frames-lines.ensures.value refl (omega (arith, low, room, count, long)) c.index-lines-frame.is (omega (arith, low, count)) c.loop-i.invariant.judged (rw c.core.ensures at c.judge.ensures);
    }
