use Rattle.std.proofs.Common.{arith, ap, sym, ◌∙◌, Some}
use Rattle.kc_lines.proofs.Digits.{read_as_spelled, no_digits}
use Rattle.kc_lines.proofs.reading.read_short_data.Goals as goal

pub returns-then-decode_into : goal.returns-then-decode_into
returns-then-decode_into c =
    ap Some c.short.ensures ∙ sym (read_as_spelled c.args.word.now c.decode_into.new.bytes c.requires.some (omega (arith, c.requires.few)) (c.decode_into.ensures.spelled c.if-decode_into.true) c.decode_into.ensures.each_byte)

pub returns-else-decode_into : goal.returns-else-decode_into
returns-else-decode_into c = sym (no_digits c.args.word.now (sym c.decode_into.ensures.valid ∙ c.if-decode_into.false))
