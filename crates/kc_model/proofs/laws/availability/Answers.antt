use Rattle.kc_model.proofs.Safe.Available.{available}
use Rattle.kc_model.proofs.laws.availability.Goals as goal

pub returns : goal.returns
returns c = available
