use Rattle.std.specs.Prelude.{codes}
use Rattle.kc_model.specs.Volumes.{IsDigest}
use Rattle.kc_state_text.specs.StateText.{approved_words}
use Rattle.kc_state_text.proofs.Lines.{none-unread, begins}
use Rattle.kc_state_text.proofs.Spelled.{approved-are-words}
use Rattle.kc_state_text.proofs.front.approved_at.Goals as goal

pub returns-in_err-read_approved : goal.returns-in_err-read_approved
returns-in_err-read_approved c =
    rw c.from_residual-in_err-read_approved.ensures
    (none-unread IsDigest (codes "approved") approved_words approved-are-words c.args.text.now c.in_ok-line.line.now c.in_ok-line.rest.now c.in_ok-line.ensures.0 c.in_ok-line.ensures.1 c.in_err-read_approved.ensures)

pub returns : goal.returns
returns c = begins IsDigest (codes "approved") approved_words approved-are-words c.args.text.now c.in_ok-line.line.now c.in_ok-line.rest.now c.in_ok-read_approved.field-0 c.in_ok-line.ensures.1 c.in_ok-read_approved.ensures
