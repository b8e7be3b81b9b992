use Rattle.std.proofs.Common.{◌≡◌, length, take, map}
use Rattle.std.specs.List.{range_with_len}
use Rattle.kc_audit.specs.Findings.{verdict_of}
use Rattle.kc_audit.proofs.frames.judge_frames.Given as goal

abbrev pub invariant-loop-i : goal.invariant-loop-i
invariant-loop-i l = record {
  count : length l.out ≡ length l.initial.out;
  judged : take l.i l.out ≡ map (verdict_of l.dump) (range_with_len l.start l.i);
}
