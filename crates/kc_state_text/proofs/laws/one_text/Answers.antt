use Rattle.kc_state_text.proofs.OnePlaced.{one-placed}
use Rattle.kc_state_text.proofs.laws.one_text.Goals as goal

pub returns : goal.returns
returns c = one-placed c.one_state.ensures
