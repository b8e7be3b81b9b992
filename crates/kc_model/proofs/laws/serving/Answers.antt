use Rattle.kc_model.proofs.Safe.Serving.{serving}
use Rattle.kc_model.proofs.laws.serving.Goals as goal

pub returns : goal.returns
returns c = serving
