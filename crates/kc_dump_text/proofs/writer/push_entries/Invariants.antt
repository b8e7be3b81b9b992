use Rattle.kc_dump_text.specs.declared.dump_line.DumpLine.TheVariants.{EntryOf}
use Rattle.kc_dump_text.specs.DumpText.{made, Writes}
use Rattle.kc_dump_text.proofs.writer.push_entries.Given as goal

abbrev pub invariant-loop-i : goal.invariant-loop-i
invariant-loop-i l = Writes (made (λ i entry. EntryOf l.vm entry)) l.i l.entries l.initial.text.items l.text.items
