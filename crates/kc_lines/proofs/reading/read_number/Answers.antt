use Rattle.std.proofs.Common.{sym, ◌∙◌}
use Rattle.kc_lines.proofs.Values.{not_digits}
use Rattle.kc_lines.proofs.reading.read_number.Goals as goal

pub returns-else-are_digits : goal.returns-else-are_digits
returns-else-are_digits c = not_digits c.args.word.now (sym c.are_digits.ensures ∙ c.if-are_digits.false)
