use Rattle.std.proofs.Common.{sym, ◌∙◌}
use Rattle.kc_state_text.proofs.Placed.{no-volume, volume-begins}
use Rattle.kc_state_text.proofs.header.position_at.Goals as goal

pub returns-in_err-read_position : goal.returns-in_err-read_position
returns-in_err-read_position c =
    rw c.from_residual-in_err-read_position.ensures (no-volume c.args.text.now c.in_ok-line.line.now c.in_ok-line.rest.now c.in_ok-line.ensures.0 c.in_ok-line.ensures.1 (sym c.read_position.ensures ∙ c.in_err-read_position.was))

pub returns : goal.returns
returns c = volume-begins c.args.text.now c.in_ok-line.line.now c.in_ok-line.rest.now c.in_ok-read_position.field-0 c.in_ok-line.ensures.1 (sym c.read_position.ensures ∙ c.in_ok-read_position.was)
