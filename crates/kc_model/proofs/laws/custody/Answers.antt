use Rattle.kc_model.proofs.Custody.Laws.{custody_is}
use Rattle.kc_model.proofs.laws.custody.Goals as goal

pub returns : goal.returns
returns c = custody_is
