use Rattle.kc_model.proofs.Safe.Arriving.{arrived}
use Rattle.kc_model.proofs.laws.arriving.Goals as goal

pub returns : goal.returns
returns c = arrived
