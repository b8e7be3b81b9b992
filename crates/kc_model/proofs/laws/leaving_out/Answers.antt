use Rattle.kc_model.proofs.Redaction.Lacking.{accesses_change_nothing}
use Rattle.kc_model.proofs.laws.leaving_out.Goals as goal

pub returns : goal.returns
returns c = accesses_change_nothing
