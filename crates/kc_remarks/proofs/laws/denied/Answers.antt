use Rattle.kc_remarks.proofs.Counted.{denied}
use Rattle.kc_remarks.proofs.laws.denied.Goals as goal

pub returns : goal.returns
returns c = denied _
