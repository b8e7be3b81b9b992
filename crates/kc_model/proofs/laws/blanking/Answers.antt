use Rattle.kc_model.proofs.Redaction.Blank.{audited_blank}
use Rattle.kc_model.proofs.laws.blanking.Goals as goal

pub returns : goal.returns
returns c = audited_blank
