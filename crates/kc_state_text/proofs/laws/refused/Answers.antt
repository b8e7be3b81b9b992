use Rattle.kc_state_text.proofs.OnePlaced.{not-placed}
use Rattle.kc_state_text.proofs.laws.refused.Goals as goal

pub returns : goal.returns
returns c = not-placed c.unlawful.ensures
