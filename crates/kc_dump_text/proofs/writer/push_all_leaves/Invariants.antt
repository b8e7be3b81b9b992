use Rattle.kc_dump_text.specs.DumpText.{leaves_of, Writes}
use Rattle.kc_dump_text.proofs.writer.push_all_leaves.Given as goal

abbrev pub invariant-loop-i : goal.invariant-loop-i
invariant-loop-i l = Writes leaves_of l.i l.slots l.initial.text.items l.text.items
