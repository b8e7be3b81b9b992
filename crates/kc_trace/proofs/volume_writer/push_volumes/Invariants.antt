use Rattle.std.proofs.Common.{◌≡◌, ◌≤◌, ◌++◌, take}
use Rattle.std.specs.Prelude.{vec_capacity}
use Rattle.kc_trace.specs.CustodyText.{volumes_text}
use Rattle.kc_trace.proofs.volume_writer.push_volumes.Given as goal

-- the lines of the volumes so far
abbrev pub invariant-loop-i : goal.invariant-loop-i
invariant-loop-i l = record {
  lines : l.text.items ≡ l.fn.text.items ++ volumes_text (take l.i l.volumes);
  capacity : vec_capacity l.fn.text ≤ vec_capacity l.text;
}
