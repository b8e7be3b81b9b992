use Rattle.std.proofs.Common.{length, ap, sym, ◌∙◌, arith}
use Rattle.kc_lines.proofs.Digits.{has_length, no_length, no_digits, written_over, data_is_made}
use Rattle.kc_lines.proofs.reading.read_data.Goals as goal

pub returns-then-not-has_data_length : goal.returns-then-not-has_data_length
returns-then-not-has_data_length c = sym (no_length c.args.word.now (sym c.has_data_length.ensures ∙ c.if-not-has_data_length.true))

pub returns-then-decode_into : goal.returns-then-decode_into
returns-then-decode_into c =
    let sizes = has_length c.args.word.now (sym c.has_data_length.ensures ∙ c.if-not-has_data_length.false) in
    let written = written_over c.decode_into.new.bytes c.in_ok-bytes.bytes.items c.in_ok-bytes.bytes.len (omega (arith, ap length c.as_mut_slice.ensures.value)) (omega arith) in
    data_is_made c.args.word.now c.decode_into.new.bytes c.try_new.result (sym c.has_data_length.ensures ∙ c.if-not-has_data_length.false) (c.decode_into.ensures.spelled c.if-decode_into.true) c.decode_into.ensures.each_byte
    (rw written at c.try_new.ensures.valid) (rw written at c.try_new.ensures.value)

pub returns-else-decode_into : goal.returns-else-decode_into
returns-else-decode_into c = sym (no_digits c.args.word.now (sym c.decode_into.ensures.valid ∙ c.if-decode_into.false))
