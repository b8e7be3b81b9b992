use Rattle.kc_lines.proofs.Encoded.{none_encoded, next_encoded}
use Rattle.kc_lines.proofs.room.encode_into.Goals as goal

pub loop-i-init : goal.loop-i-init
loop-i-init c = none_encoded c.args.bytes.now c.args.digits.now c.requires

pub loop-i-preserved : goal.loop-i-preserved
loop-i-preserved c = next_encoded c.args.bytes.now c.loop-i.digits c.loop-i.i c.digit_of.result c.digit_of-in-loop-i.result c.loop-i-test.true c.digit_of.ensures c.digit_of-in-loop-i.ensures c.loop-i.invariant
