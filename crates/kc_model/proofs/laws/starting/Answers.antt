use Rattle.kc_model.proofs.Safe.Starting.{started}
use Rattle.kc_model.proofs.laws.starting.Goals as goal

pub returns : goal.returns
returns c = started
