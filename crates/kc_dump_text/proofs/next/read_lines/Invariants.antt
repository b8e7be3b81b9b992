use Rattle.std.proofs.Common.{length}
use Rattle.kc_dump_text.specs.Begun.{ReadsOn, IsBegun}
use Rattle.kc_dump_text.proofs.next.read_lines.Given as goal

abbrev pub invariant-loop-line : goal.invariant-loop-line
invariant-loop-line l = IsBegun l.sizes.version l.sizes.frames l.begun l.place × ReadsOn l.sizes.frames l.initial.begun l.text l.begun l.rest

abbrev pub decreases-loop-line : goal.decreases-loop-line
decreases-loop-line l = length l.rest
