use Rattle.std.proofs.Common.{◌≡◌, ◌≤◌, ◌+◌, drop}
use Rattle.kc_dump_text.specs.Begun.{newlines}
use Rattle.kc_dump_text.proofs.reader.count_newlines.Given as goal

abbrev pub invariant-loop-i : goal.invariant-loop-i
invariant-loop-i l = (l.count + newlines (drop l.i l.bytes) ≡ newlines l.bytes) × (l.count ≤ l.i)
