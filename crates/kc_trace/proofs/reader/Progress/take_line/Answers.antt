use Rattle.std.proofs.Common.{[], ap, ◌∙◌, sym, refl}
use Rattle.std.proofs.lemmas.Result.{err_from_is_err_and}
use Rattle.kc_trace.specs.Machine.{longer, line_ended, feed, with_front}
use Rattle.kc_trace.specs.Redacting.{read_by}
use Rattle.kc_trace.proofs.Runs.{feed_nothing, feed_begun, feed_ended, fails_then, nothing_after}
use Rattle.kc_trace.proofs.Redacting.{nothing_by, fails_by, then_by}
use Rattle.kc_trace.proofs.reader.Progress.take_line.Goals as goal

pub returns-in_err-begin-clause-same : goal.returns-in_err-begin-clause-same
returns-in_err-begin-clause-same c =
    let made = err_from_is_err_and c.from_residual.result c.from_residual.ensures.1 in
    rw (made.1, made.2, feed_begun c.args.self.now c.args.bytes.now c.requires.some c.in_default.ensures) (fails_by c.args.guests _ _ c.in_err-begin.ensures)

pub returns-in_default-clause-same : goal.returns-in_default-clause-same
returns-in_default-clause-same c =
    let guests = c.args.guests in
    let new = c.begin.new.self in
    ap (read_by guests) (feed_begun c.args.self.now c.args.bytes.now c.requires.some c.in_default.ensures ∙ c.in_ok-begin.ensures) ∙ nothing_by guests new
    ∙ sym (ap (λ rest. with_front [] (read_by guests (feed new rest))) (nothing_after c.args.bytes.now) ∙ ap (λ read. with_front [] (read_by guests read)) (feed_nothing new) ∙ ap (with_front []) (nothing_by guests new))

pub returns-in_err-call-clause-same : goal.returns-in_err-call-clause-same
returns-in_err-call-clause-same c =
    let made = err_from_is_err_and c.from_residual-in_err-call.result c.from_residual-in_err-call.ensures.1 in
    let line = c.in-Some.line.now in
    let rest = c.in-Some.rest.now in
    rw (made.1, made.2, c.in-Some.ensures.1, feed_ended c.args.self.now line rest c.in-Some.ensures.0, then_by c.args.guests rest (line_ended (longer c.args.self.now line))) (fails_then _ _ _ c.in_err-call.ensures)

pub returns-clause-same : goal.returns-clause-same
returns-clause-same c =
    let line = c.in-Some.line.now in
    let rest = c.in-Some.rest.now in
    rw (c.in-Some.ensures.1, feed_ended c.args.self.now line rest c.in-Some.ensures.0, then_by c.args.guests rest (line_ended (longer c.args.self.now line)), c.in_ok-call.ensures) refl
