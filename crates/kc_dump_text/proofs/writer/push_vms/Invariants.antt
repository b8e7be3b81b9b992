use Rattle.kc_dump_text.specs.DumpText.{made, vm_of, Writes}
use Rattle.kc_dump_text.proofs.writer.push_vms.Given as goal

abbrev pub invariant-loop-i : goal.invariant-loop-i
invariant-loop-i l = Writes (made vm_of) l.i l.slots l.initial.text.items l.text.items
