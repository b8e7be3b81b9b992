use Rattle.kc_model.proofs.Summaries.Summed.{summaries_are}
use Rattle.kc_model.proofs.laws.summaries.Goals as goal

pub returns : goal.returns
returns c = summaries_are
