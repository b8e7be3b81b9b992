use Rattle.std.proofs.Common.{sym, ◌∙◌}
use Rattle.std.specs.Prelude.{codes}
use Rattle.kc_state_text.proofs.Taken.{no-digest-word, digest-is-read}
use Rattle.kc_state_text.proofs.line_reader.read_approved.Goals as goal
use Rattle.kc_trace.specs.HeadReading.{words_in}

pub returns-in_err-digest : goal.returns-in_err-digest
returns-in_err-digest c =
    rw c.from_residual-in_err-digest.ensures
    (no-digest-word (codes "approved") (words_in c.args.line.now) c.in_ok-next.field-0.now c.take_name.new.words c.next.new.self (sym c.new-words.ensures ∙ c.in_ok-take_name.ensures) c.in_ok-next.ensures (sym c.in_err-digest.ensures))

pub returns : goal.returns
returns c = digest-is-read (codes "approved") (words_in c.args.line.now) c.in_ok-digest.digest c.in_ok-next.field-0.now c.take_name.new.words c.next.new.self (sym c.new-words.ensures ∙ c.in_ok-take_name.ensures) c.in_ok-next.ensures c.in_ok-end.ensures.ended
    (sym c.in_ok-digest.ensures)
