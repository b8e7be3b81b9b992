use Rattle.std.proofs.Common.{arith}
use Rattle.kc_state_text.proofs.Taken.{number-past}
use Rattle.kc_state_text.proofs.words.take_number_to.Goals as goal

pub returns-else-number-most : goal.returns-else-number-most
returns-else-number-most c = number-past c.args.most c.in_ok-number.number c.if-number-most.false (grind (arith, c.ranges)) c.args.words.now c.take_number.new.words c.in_ok-number.ensures
