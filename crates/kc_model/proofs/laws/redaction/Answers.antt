use Rattle.kc_model.proofs.Redaction.Traces.{bytes_decide_nothing}
use Rattle.kc_model.proofs.laws.redaction.Goals as goal

pub returns : goal.returns
returns c = bytes_decide_nothing
