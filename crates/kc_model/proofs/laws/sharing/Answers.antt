use Rattle.kc_model.proofs.Safe.Sharing.{shared}
use Rattle.kc_model.proofs.laws.sharing.Goals as goal

pub returns : goal.returns
returns c = shared
