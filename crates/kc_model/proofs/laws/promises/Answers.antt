use Rattle.kc_model.proofs.Promises.{promises_kept}
use Rattle.kc_model.proofs.laws.promises.Goals as goal

pub returns : goal.returns
returns c = promises_kept
