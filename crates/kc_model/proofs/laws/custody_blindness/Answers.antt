use Rattle.kc_model.proofs.Blind.Told.{custody_is_blind}
use Rattle.kc_model.proofs.laws.custody_blindness.Goals as goal

pub returns : goal.returns
returns c = custody_is_blind
