use Rattle.std.proofs.Common.{◌≡◌, length, take, drop, map}
use Rattle.kcore_c.specs.Record.{change_of}
use Rattle.kcore_c.proofs.record.tell_changes.Given as goal

-- the changes so far are reported, and the places after all of them are as they were
abbrev pub invariant-loop-i : goal.invariant-loop-i
invariant-loop-i l = record {
  len : length l.out ≡ length l.initial.out;
  front : take l.i l.out ≡ map change_of (take l.i l.changes);
  rest : drop (length l.changes) l.out ≡ drop (length l.changes) l.initial.out;
}
