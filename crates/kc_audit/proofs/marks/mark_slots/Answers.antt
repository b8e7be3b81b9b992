use Rattle.std.proofs.Common.{◌≡◌, ◌≤◌, length, ap, ◌∙◌}
use Rattle.kc_audit.proofs.Marked.{mark-more, marked-all, slot-is}
use Rattle.kc_audit.proofs.marks.mark_slots.Goals as goal

pub loop-i-preserved : goal.loop-i-preserved
loop-i-preserved c =
    let d = c.args.dump.now in
    let vm : c.unwrap-vm.result ≡ c.loop-i.i = rw c.unwrap-vm.ensures at c.try_new.ensures.value in
    let slot = slot-is d c.slots-slots.result.now c.loop-i.i c.index-slots-i.result c.slots-slots.ensures.value c.loop-i-test.true c.index-slots-i.is in
    record {
      count = c.mark_slot.ensures.count ∙ c.loop-i.invariant.count;
      marked = mark-more d c.loop-i.i c.unwrap-vm.result c.entries.result.now c.loop-i.marks c.mark_slot.new.marks vm (c.entries.ensures ∙ ap (λ s. s.entries) slot)
          (rw c.frames.ensures.value at c.mark_slot.ensures.mine) (rw c.frames.ensures.value at c.mark_slot.ensures.others) c.loop-i.invariant.marked;
    }

pub returns-clause-marks : goal.returns-clause-marks
returns-clause-marks c =
    let d = c.args.dump.now in
    let all : length d.slots ≤ c.loop-i.i = rw c.slots-slots.ensures.value at c.loop-i-test.false in
    marked-all d c.loop-i.marks c.loop-i.i (c.loop-i.invariant.count ∙ c.requires.count) all c.loop-i.invariant.marked
