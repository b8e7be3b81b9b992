use Rattle.std.proofs.Common.{◌≡◌, ◌≤◌, ◌+◌, ◌++◌, map, filter, take, vec_len}
use Rattle.std.specs.Vec.{vec_capacity}
use Rattle.kc_custody.specs.Marks.{settled, differs, frame_event}
use Rattle.kc_custody.proofs.telling.tell_frames.Given as goal

-- the marks so far that differ are reported, and the room for those to come is kept
abbrev pub invariant-loop-mark : goal.invariant-loop-mark
invariant-loop-mark l = record {
  told : l.told.items ≡ l.fn.told.items ++ map frame_event (filter differs (map (settled l.core.state) (take l.mark-index l.marks)));
  len : vec_len l.told ≤ vec_len l.fn.told + l.mark-index;
  capacity : vec_capacity l.fn.told ≤ vec_capacity l.told;
}
