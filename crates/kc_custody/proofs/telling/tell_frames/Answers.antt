use Rattle.std.proofs.Common.{◌≡◌, ◌+◌, not, vec_len, sym, ap, ◌∙◌, arith}
use Rattle.kc_model.specs.Custody.{same_custody, custody_at}
use Rattle.kc_custody.specs.Marks.{settled, differs, frame_event}
use Rattle.kc_custody.proofs.Pushed.{settled-more, told-one, told-none}
use Rattle.kc_custody.proofs.telling.tell_frames.Goals as goal
use Rattle.kc_custody.proofs.telling.tell_frames.Goals.{then-not-same_custody, else-not-same_custody}

pub loop-mark-preserved : goal.loop-mark-preserved
loop-mark-preserved c =
    let new = c.args.core.now.state in
    let mark = c.mark-item.result in
    let next = settled-more new c.args.marks.now c.loop-mark.mark-index mark c.loop-mark-test.true c.mark-item.is in
    let test : c.same_custody.result ≡ same_custody mark.before (custody_at new mark.frame) = c.same_custody.ensures ∙ ap (same_custody mark.before) c.custody_at.ensures in
    let before = c.loop-mark.invariant.told in
    let len = c.loop-mark.invariant.len in
    let capacity = c.loop-mark.invariant.capacity in
    elim c.if-not-same_custody.branch [
      | then-not-same_custody w ↦
          let pushed = rw (w.unwrap.ensures, c.custody_at.ensures, before) at w.push.ensures.items in
          let longer : vec_len w.push.new.self ≡ vec_len c.loop-mark.told + 1 = rw w.unwrap.ensures at w.push.ensures.len in
          let kept = w.push.ensures.capacity in
          rw w.told-is record {
            told = rw next (told-one _ _ _ (frame_event (settled new mark)) (differs (settled new mark)) (ap not (sym test ∙ w.if-not-same_custody.true)) pushed);
            len = omega (arith, len, longer);
            capacity = omega (arith, capacity, kept);
          }
      | else-not-same_custody w ↦
          rw w.told-is record {
            told = rw (next, before) (told-none _ _ (frame_event (settled new mark)) (differs (settled new mark)) (ap not (sym test ∙ w.if-not-same_custody.false)));
            len = omega (arith, len);
            capacity = capacity;
          }
    ]
