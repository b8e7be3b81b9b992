use Rattle.std.proofs.Common.{◌∙◌, arith}
use Rattle.kc_lines.proofs.Values.{digits_numeral, value_is, no_value, not_numeral}
use Rattle.kc_lines.proofs.reading.read_digits.Goals as goal

pub returns-then-not-has_no_leading_zero : goal.returns-then-not-has_no_leading_zero
returns-then-not-has_no_leading_zero c = not_numeral c.args.digits.now (digits_numeral c.args.digits.now c.has_no_leading_zero.result c.requires c.has_no_leading_zero.ensures ∙ c.if-not-has_no_leading_zero.true)

pub returns-then-value-lt-TOO_LARGE : goal.returns-then-value-lt-TOO_LARGE
returns-then-value-lt-TOO_LARGE c =
    value_is c.args.digits.now c.value_of-value.result (digits_numeral c.args.digits.now c.has_no_leading_zero.result c.requires c.has_no_leading_zero.ensures ∙ c.if-not-has_no_leading_zero.false) (record { below = c.value_of-value.ensures.below; above = c.value_of-value.ensures.above }) (omega (arith, c.if-value-lt-TOO_LARGE.true))

pub returns-else-value-lt-TOO_LARGE : goal.returns-else-value-lt-TOO_LARGE
returns-else-value-lt-TOO_LARGE c =
    no_value c.args.digits.now c.value_of-value.result (digits_numeral c.args.digits.now c.has_no_leading_zero.result c.requires c.has_no_leading_zero.ensures ∙ c.if-not-has_no_leading_zero.false) (record { below = c.value_of-value.ensures.below; above = c.value_of-value.ensures.above }) (omega (arith, c.if-value-lt-TOO_LARGE.false))
