use Rattle.std.proofs.Common.{refl, sym, ◌∙◌}
use Rattle.kc_trace.proofs.Cuts.{one_word_read, two_words_read, three_words_read, four_words_read, five_words_read, six_words_read, host_write_read, longer_host_write}
use Rattle.kc_trace.proofs.Spelled.{too_many_words}
use Rattle.kc_trace.proofs.Redacting.{none_stays, one_word_stays, two_words_stay, three_words_stay, four_words_stay, five_words_stay, host_words_stay, stays_by}
use Rattle.kc_trace.proofs.line.read_call.Goals as goal

pub returns-in_default : goal.returns-in_default
returns-in_default c = stays_by c.args.guests _ _ _ c.read_one_word.ensures (one_word_read c.args.line.now c.in_default.ensures) (one_word_stays c.args.line.now)

pub returns-in_default-rest : goal.returns-in_default-rest
returns-in_default-rest c =
    stays_by c.args.guests _ _ _ c.read_two_words.ensures
    (two_words_read c.in-Some.name.now c.args.line.now c.in-Some.rest.now c.split_number-first.result.0 c.in-Some.ensures (rw c.in_default-rest.is at c.split_number-first.ensures))
    (two_words_stay c.in-Some.name.now c.split_number-first.result.0)

pub returns-in_default-rest-2 : goal.returns-in_default-rest-2
returns-in_default-rest-2 c =
    stays_by c.args.guests _ _ _ c.read_three_words.ensures
    (three_words_read c.in-Some.name.now c.args.line.now c.in-Some.rest.now c.in-Some-rest.rest.now c.split_number-first.result.0 c.split_number-second.result.0
    c.in-Some.ensures (rw c.in-Some-rest.is at c.split_number-first.ensures) (rw c.in_default-rest-2.is at c.split_number-second.ensures))
    (three_words_stay c.in-Some.name.now c.split_number-first.result.0 c.split_number-second.result.0)

pub returns-in_default-split_word : goal.returns-in_default-split_word
returns-in_default-split_word c =
    stays_by c.args.guests _ _ _ refl
    (longer_host_write c.in-Some.name.now c.args.line.now c.in-Some.rest.now c.in-Some-rest.rest.now c.in-Some-rest-2.rest.now c.in_default-split_word.field-0.0.now c.in_default-split_word.field-0.1.now c.split_number-first.result.0 c.split_number-second.result.0
    c.in-Some.ensures (rw c.in-Some-rest.is at c.split_number-first.ensures) (rw c.in-Some-rest-2.is at c.split_number-second.ensures) c.in_default-split_word.ensures (sym c.is_host_write.ensures ∙ c.if-is_host_write.true))
    none_stays

pub returns-then-is_host_write : goal.returns-then-is_host_write
returns-then-is_host_write c =
    let same = host_write_read c.in-Some.name.now c.args.line.now c.in-Some.rest.now c.in-Some-rest.rest.now c.in-Some-rest-2.rest.now c.split_number-first.result.0 c.split_number-second.result.0
    c.in-Some.ensures (rw c.in-Some-rest.is at c.split_number-first.ensures) (rw c.in-Some-rest-2.is at c.split_number-second.ensures) c.in-None.ensures (sym c.is_host_write.ensures ∙ c.if-is_host_write.true) in
    rw (stays_by c.args.guests _ _ _ refl same (host_words_stay c.in-Some-rest-2.rest.now c.split_number-first.result.0 c.split_number-second.result.0)) at c.read_host_write.ensures

pub returns-in_default-rest-3 : goal.returns-in_default-rest-3
returns-in_default-rest-3 c =
    stays_by c.args.guests _ _ _ c.read_four_words.ensures
    (four_words_read c.in-Some.name.now c.args.line.now c.in-Some.rest.now c.in-Some-rest.rest.now c.in-Some-rest-2.rest.now c.split_number-first.result.0 c.split_number-second.result.0 c.split_number-third.result.0
    c.in-Some.ensures (rw c.in-Some-rest.is at c.split_number-first.ensures) (rw c.in-Some-rest-2.is at c.split_number-second.ensures) (rw c.in_default-rest-3.is at c.split_number-third.ensures) (sym c.is_host_write.ensures ∙ c.if-is_host_write.false))
    (four_words_stay c.in-Some.name.now c.split_number-first.result.0 c.split_number-second.result.0 c.split_number-third.result.0)

pub returns-in_default-rest-4 : goal.returns-in_default-rest-4
returns-in_default-rest-4 c =
    stays_by c.args.guests _ _ _ c.read_five_words.ensures
    (five_words_read c.in-Some.name.now c.args.line.now c.in-Some.rest.now c.in-Some-rest.rest.now c.in-Some-rest-2.rest.now c.in-Some-rest-3.rest.now c.split_number-first.result.0 c.split_number-second.result.0 c.split_number-third.result.0 c.split_number-fourth.result.0
    c.in-Some.ensures (rw c.in-Some-rest.is at c.split_number-first.ensures) (rw c.in-Some-rest-2.is at c.split_number-second.ensures) (rw c.in-Some-rest-3.is at c.split_number-third.ensures) (rw c.in_default-rest-4.is at c.split_number-fourth.ensures))
    (five_words_stay c.in-Some.name.now c.split_number-first.result.0 c.split_number-second.result.0 c.split_number-third.result.0 c.split_number-fourth.result.0)

pub returns-in_default-split_word-2 : goal.returns-in_default-split_word-2
returns-in_default-split_word-2 c =
    let first = rw c.in-Some-rest.is at c.split_number-first.ensures in
    let second = rw c.in-Some-rest-2.is at c.split_number-second.ensures in
    let third = rw c.in-Some-rest-3.is at c.split_number-third.ensures in
    let fourth = rw c.in-Some-rest-4.is at c.split_number-fourth.ensures in
    stays_by c.args.guests _ _ _ refl
    (too_many_words c.in-Some.name.now first.0 second.0 third.0 fourth.0 c.in_default-split_word-2.field-0.0.now c.in-Some.rest.now c.in-Some-rest.rest.now c.in-Some-rest-2.rest.now c.in-Some-rest-3.rest.now c.in-Some-rest-4.rest.now c.in_default-split_word-2.field-0.1.now c.args.line.now
    c.in-Some.ensures first.1 second.1 third.1 fourth.1 c.in_default-split_word-2.ensures)
    none_stays

pub returns : goal.returns
returns c =
    let same = six_words_read c.in-Some.name.now c.args.line.now c.in-Some.rest.now c.in-Some-rest.rest.now c.in-Some-rest-2.rest.now c.in-Some-rest-3.rest.now c.in-Some-rest-4.rest.now c.split_number-first.result.0 c.split_number-second.result.0 c.split_number-third.result.0 c.split_number-fourth.result.0
    c.in-Some.ensures (rw c.in-Some-rest.is at c.split_number-first.ensures) (rw c.in-Some-rest-2.is at c.split_number-second.ensures) (rw c.in-Some-rest-3.is at c.split_number-third.ensures) (rw c.in-Some-rest-4.is at c.split_number-fourth.ensures) c.in-None-split_word.ensures in
    rw same at c.read_guest_access.ensures
