use Rattle.kc_model.proofs.Custody.Bars.{bars_are}
use Rattle.kc_model.proofs.laws.bars.Goals as goal

pub returns : goal.returns
returns c = bars_are
