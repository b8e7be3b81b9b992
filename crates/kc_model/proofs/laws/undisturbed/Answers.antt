use Rattle.kc_model.proofs.Undisturbed.Traces.{undisturbed}
use Rattle.kc_model.proofs.laws.undisturbed.Goals as goal

pub returns : goal.returns
returns c = undisturbed
