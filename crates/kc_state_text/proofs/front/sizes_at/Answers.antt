use Rattle.std.specs.Prelude.{codes}
use Rattle.kc_state_text.specs.Refused.{AreSizes}
use Rattle.kc_state_text.specs.StateText.{sizes_words}
use Rattle.kc_state_text.proofs.Lines.{none-unread, begins}
use Rattle.kc_state_text.proofs.Spelled.{sizes-are-words}
use Rattle.kc_state_text.proofs.front.sizes_at.Goals as goal

pub returns-in_err-read_sizes : goal.returns-in_err-read_sizes
returns-in_err-read_sizes c =
    rw c.from_residual-in_err-read_sizes.ensures
    (none-unread AreSizes (codes "config") sizes_words sizes-are-words c.args.text.now c.in_ok-line.line.now c.in_ok-line.rest.now c.in_ok-line.ensures.0 c.in_ok-line.ensures.1 c.in_err-read_sizes.ensures)

pub returns : goal.returns
returns c = begins AreSizes (codes "config") sizes_words sizes-are-words c.args.text.now c.in_ok-line.line.now c.in_ok-line.rest.now c.in_ok-read_sizes.field-0 c.in_ok-line.ensures.1 c.in_ok-read_sizes.ensures
