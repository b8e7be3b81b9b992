use Rattle.kc_model.proofs.Safe.Alone.{passed_on}
use Rattle.kc_model.proofs.laws.passing.Goals as goal

pub returns : goal.returns
returns c = passed_on
