use Rattle.std.proofs.Common.{arith}
use Rattle.kc_lines.proofs.Words.{last_number, first_number}
use Rattle.kc_lines.proofs.reading.split_number.Goals as goal

pub returns-then-count-line : goal.returns-then-count-line
returns-then-count-line c = last_number c.args.line.now c.count_digits-count.result c.read_digits.result (omega (arith, c.if-count-line.true)) c.count_digits-count.ensures.digits c.read_digits.ensures

pub returns-then-line-count-eq32 : goal.returns-then-line-count-eq32
returns-then-line-count-eq32 c =
    first_number c.args.line.now c.count_digits-count.result c.read_digits-then-line-count-eq32.result (omega (arith, c.count_digits-count.ensures.within, c.if-count-line.false)) c.if-line-count-eq32.true
    c.count_digits-count.ensures.digits c.read_digits-then-line-count-eq32.ensures
