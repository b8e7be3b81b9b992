use Rattle.std.proofs.Common.{rules, arith}
use Rattle.kc_trace.proofs.Volumes.{volumes_more}
use Rattle.kc_trace.proofs.volume_writer.push_volumes.Goals as goal

pub loop-i-preserved : goal.loop-i-preserved
loop-i-preserved c = record {
  lines = volumes_more c.args.text.now.items c.loop-i.i c.args.volumes.now _ c.loop-i.text.items c.push_volume.new.text.items c.loop-i-test.true (search rules) c.loop-i.invariant.lines (rw c.in_ok-reserve.ensures.items at c.push_volume.ensures.line);
  capacity = omega arith;
}
