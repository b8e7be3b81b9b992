use Rattle.kc_dump_text.specs.declared.dump_line.DumpLine.TheVariants.{FrameOf}
use Rattle.kc_dump_text.specs.DumpText.{made, Writes}
use Rattle.kc_dump_text.proofs.writer.push_frames.Given as goal

abbrev pub invariant-loop-i : goal.invariant-loop-i
invariant-loop-i l = Writes (made FrameOf) l.i l.frames l.initial.text.items l.text.items
