use Rattle.std.proofs.Common.{arith, refl}
use Rattle.std.proofs.lemmas.List.{get_or_default}
use Rattle.kc_lines.proofs.Digits.{none_decoded, next_decoded}
use Rattle.kc_lines.proofs.reading.decode_into.Goals as goal

pub loop-i-init : goal.loop-i-init
loop-i-init c = none_decoded c.args.word.now c.args.bytes.now (λ k. omega (arith, c.type_inv.bytes k))

pub loop-i-preserved : goal.loop-i-preserved
loop-i-preserved c =
    rw (c.is_lower_digit.ensures, c.is_lower_digit-in-loop-i.ensures, c.digit_value.ensures.value, c.digit_value-in-loop-i.ensures.value)
    (next_decoded c.loop-i.valid c.args.word.now c.loop-i.bytes c.loop-i.i _ (omega arith) (omega arith) refl c.loop-i.invariant)

pub returns-clause-each_byte : goal.returns-clause-each_byte
returns-clause-each_byte c = λ k d lt. rw (get_or_default c.loop-i.bytes k d 0 lt) (c.loop-i.invariant.each_byte k)
