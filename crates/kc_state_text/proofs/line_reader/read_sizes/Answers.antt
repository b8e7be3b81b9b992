use Rattle.std.proofs.Common.{sym, ◌∙◌}
use Rattle.std.specs.Prelude.{codes}
use Rattle.kc_state_text.proofs.Taken.{no-frames, no-host, no-approved}
use Rattle.kc_state_text.proofs.line_reader.read_sizes.Goals as goal
use Rattle.kc_trace.specs.HeadReading.{words_in}

pub returns-in_err-frames : goal.returns-in_err-frames
returns-in_err-frames c =
    rw c.from_residual-in_err-frames.ensures
    (no-frames (codes "config") (words_in c.args.line.now) c.in_ok-slots.slots c.take_name.new.words c.take_number_to.new.words (sym c.new-words.ensures ∙ c.in_ok-take_name.ensures) c.in_ok-slots.ensures.whole c.in_err-frames.ensures)

pub returns-in_err-host : goal.returns-in_err-host
returns-in_err-host c =
    rw c.from_residual-in_err-host.ensures
    (no-host (codes "config") (words_in c.args.line.now) c.in_ok-slots.slots c.in_ok-frames.frames c.take_name.new.words c.take_number_to.new.words c.take_number_to-2.new.words (sym c.new-words.ensures ∙ c.in_ok-take_name.ensures) c.in_ok-slots.ensures.whole c.in_ok-frames.ensures.whole
    c.in_err-host.ensures)

pub returns-in_err-approved : goal.returns-in_err-approved
returns-in_err-approved c =
    rw c.from_residual-in_err-approved.ensures
    (no-approved (codes "config") (words_in c.args.line.now) c.in_ok-slots.slots c.in_ok-frames.frames c.in_ok-host.host c.take_name.new.words c.take_number_to.new.words c.take_number_to-2.new.words c.take_number_to-3.new.words (sym c.new-words.ensures ∙ c.in_ok-take_name.ensures)
    c.in_ok-slots.ensures.whole c.in_ok-frames.ensures.whole c.in_ok-host.ensures.whole c.in_err-approved.ensures)
