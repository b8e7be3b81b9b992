use Rattle.kc_dump_text.specs.declared.dump_line.DumpLine.TheVariants.{EntryOf}
use Rattle.kc_dump.specs.Dump.{SlotDump}
use Rattle.kc_dump_text.proofs.Spelled.{slot-more}
use Rattle.kc_dump_text.proofs.writer.push_all_entries.Goals as goal

pub loop-i-preserved : goal.loop-i-preserved
loop-i-preserved c =
    slot-more (λ (s : SlotDump). s.entries) (λ v i entry. EntryOf v entry) c.args.slots.now c.loop-i.i c.index-slots-i.result _ c.loop-i.text.items c.push_entries.new.text.items c.loop-i-test.true c.index-slots-i.is c.loop-i.invariant (rw c.entries.ensures at c.in_ok-push_entries.ensures)
