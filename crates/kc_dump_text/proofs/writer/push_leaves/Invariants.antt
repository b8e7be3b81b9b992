use Rattle.kc_dump_text.specs.declared.dump_line.DumpLine.TheVariants.{LeafOf}
use Rattle.kc_dump_text.specs.DumpText.{made, Writes}
use Rattle.kc_dump_text.proofs.writer.push_leaves.Given as goal

abbrev pub invariant-loop-i : goal.invariant-loop-i
invariant-loop-i l = Writes (made (LeafOf l.vm)) l.i l.leaves l.initial.text.items l.text.items
