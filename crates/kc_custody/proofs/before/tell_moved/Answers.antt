use Rattle.std.proofs.Common.{◌≡◌, ◌++◌, not, map, filter, sym, ap, ap₂, ◌∙◌, arith}
use Rattle.std.specs.List.{range_with_len}
use Rattle.std.proofs.lemmas.Simd.{map-map}
use Rattle.kc_model.specs.Boot.{boot}
use Rattle.kc_model.specs.Custody.{custody_at, same_custody, has_moved, frame_change}
use Rattle.kc_model.specs.Before.{header_line, frame_before}
use Rattle.kc_custody.proofs.Passed.{passed-more}
use Rattle.kc_custody.proofs.Pushed.{told-one, told-none}
use Rattle.kc_custody.proofs.before.tell_moved.Invariants.{moved}
use Rattle.kc_custody.proofs.before.tell_moved.Goals as goal
use Rattle.kc_custody.proofs.before.tell_moved.Goals.{then-not-same_custody+in_ok-push, else-not-same_custody}

pub loop-frame-preserved : goal.loop-frame-preserved
loop-frame-preserved c =
    let new = c.args.core.now.state in
    let old = boot new.config in
    let f = c.loop-frame.frame in
    let next = passed-more (moved new) (has_moved old new) f in
    let before = rw c.config-config.ensures.value at c.custody_at_boot-before.ensures in
    let after = c.custody_at-after.ensures in
    let test : c.same_custody.result ≡ same_custody (custody_at old f) (custody_at new f) = c.same_custody.ensures ∙ ap₂ same_custody before after in
    elim c.if-not-same_custody.branch [
      | then-not-same_custody+in_ok-push w ↦
          let pushed = rw (before, after, c.loop-frame.invariant) at w.in_ok-push.ensures.items in
          rw (w.told-is, next) (told-one _ _ _ (moved new f) (has_moved old new f) (ap not (sym test ∙ w.if-not-same_custody.true)) pushed)
      | else-not-same_custody w ↦
          rw (w.told-is, next, c.loop-frame.invariant) (told-none _ _ (moved new f) (has_moved old new f) (ap not (sym test ∙ w.if-not-same_custody.false)))
    ]

pub returns : goal.returns
returns c =
    let new = c.args.core.now.state in
    let old = boot new.config in
    let past = c.loop-frame-test.false in
    let within = c.loop-frame.auto.frame-end in
    let count = rw c.config-config.ensures.value at c.frames-frame-end.ensures.value in
    let whole : c.loop-frame.frame ≡ new.config.frames = omega (arith, past, within, count) in
    c.loop-frame.invariant
    ∙ ap (λ n. c.args.told.now.items ++ map (moved new) (filter (has_moved old new) (range_with_len 0 n))) whole
    ∙ ap (λ events. c.args.told.now.items ++ events) (sym (map-map frame_before (frame_change header_line old new) (filter (has_moved old new) (range_with_len 0 new.config.frames))))
