use Rattle.std.proofs.Common.{◌∙◌}
use Rattle.kc_dump_text.specs.DumpText.{spell}
use Rattle.kc_dump_text.specs.declared.dump_line.DumpLine.TheVariants.{SizeOf, FreeOf}
use Rattle.kc_dump_text.proofs.Stopped.{no-size, no-free, begun-none, two-lines}
use Rattle.kc_dump_text.proofs.reader.read_after_header.Goals as goal

pub returns-in_default : goal.returns-in_default
returns-in_default c = no-size c.args.version c.args.text.now c.in_default.ensures

pub returns-in_default-next_free : goal.returns-in_default-next_free
returns-in_default-next_free c = no-free c.args.version c.args.text.now c.in-Some.frames c.in-Some.core c.in-Some.leaves c.in-Some.rest.now c.in-Some.ensures.0 c.in-Some.ensures.1 c.in_default-next_free.ensures

pub read_lines-requires : goal.read_lines-requires
read_lines-requires c = rw c.new-begun.ensures (begun-none c.args.version c.args.text.now c.in-Some.frames c.in-Some.core c.in-Some.leaves c.in-Some-next_free.free c.in-Some.ensures.1 c.in-Some-next_free.ensures.1)

pub finish-requires-clause-whole : goal.finish-requires-clause-whole
finish-requires-clause-whole c =
    two-lines (spell (SizeOf c.in-Some.frames c.in-Some.core c.in-Some.leaves)) (spell (FreeOf c.in-Some-next_free.free)) c.args.text.now c.in-Some.rest.now c.in-Some-next_free.rest.now c.in-Some.ensures.0 c.in-Some-next_free.ensures.0 ∙ rw c.new-begun.ensures at c.in_ok-place.ensures.1
