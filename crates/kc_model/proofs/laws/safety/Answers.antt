use Rattle.kc_model.proofs.Safe.Safe.{safe}
use Rattle.kc_model.proofs.laws.safety.Goals as goal

pub returns : goal.returns
returns c = safe
