use Rattle.kc_trace.proofs.Runs.{feed_each-concat}
use Rattle.kc_trace.proofs.laws.cutting.Goals as goal

pub returns : goal.returns
returns c = feed_each-concat
