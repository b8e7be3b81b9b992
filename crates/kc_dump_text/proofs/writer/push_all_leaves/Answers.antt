use Rattle.kc_dump_text.specs.declared.dump_line.DumpLine.TheVariants.{LeafOf}
use Rattle.kc_dump.specs.Dump.{SlotDump}
use Rattle.kc_dump_text.proofs.Spelled.{slot-more}
use Rattle.kc_dump_text.proofs.writer.push_all_leaves.Goals as goal

pub loop-i-preserved : goal.loop-i-preserved
loop-i-preserved c =
    slot-more (λ (s : SlotDump). s.leaves) LeafOf c.args.slots.now c.loop-i.i c.index-slots-i.result _ c.loop-i.text.items c.push_leaves.new.text.items c.loop-i-test.true c.index-slots-i.is c.loop-i.invariant (rw c.leaves.ensures at c.in_ok-push_leaves.ensures)
