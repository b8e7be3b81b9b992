use Rattle.std.proofs.Common.{ap, sym, ◌∙◌, refl, Some}
use Rattle.kc_lines.specs.Words.{blanked_data}
use Rattle.kc_lines.proofs.Digits.{no_length, no_digits, blanked_word, blanked_is_made}
use Rattle.kc_lines.proofs.reading.read_blanked.Goals as goal
use Rattle.kc_lines.proofs.reading.read_blanked.Goals.{then-not-has_data_length-via-then-not-has_data_length, then-not-has_data_length-via-else-not-has_data_length+then-not-are_lower_digits}

pub returns-then-not-has_data_length : goal.returns-then-not-has_data_length
returns-then-not-has_data_length c =
    elim c.then-not-has_data_length.branch [
      | then-not-has_data_length-via-then-not-has_data_length w ↦ ap blanked_data (sym (no_length c.args.word.now (sym c.has_data_length.ensures ∙ w.if-not-has_data_length.true)))
      | then-not-has_data_length-via-else-not-has_data_length+then-not-are_lower_digits w ↦ ap blanked_data (sym (no_digits c.args.word.now (sym w.are_lower_digits.ensures ∙ w.if-not-are_lower_digits.true)))
    ]

pub returns-then-len-le-SHORT_SIZE : goal.returns-then-len-le-SHORT_SIZE
returns-then-len-le-SHORT_SIZE c =
    ap Some c.make_short_zeros.ensures ∙ sym (blanked_word c.args.word.now _ (sym c.has_data_length.ensures ∙ c.if-not-has_data_length.false) (sym c.are_lower_digits.ensures ∙ c.if-not-are_lower_digits.false) refl)

pub returns : goal.returns
returns c =
    let zeros = c.in_ok-vec.ensures.items_if_clones_equal (λ y h. h) in
    blanked_is_made c.args.word.now _ c.try_new.result (sym c.has_data_length.ensures ∙ c.if-not-has_data_length.false) (sym c.are_lower_digits.ensures ∙ c.if-not-are_lower_digits.false) refl
    (rw zeros at c.try_new.ensures.valid) (rw zeros at c.try_new.ensures.value)
