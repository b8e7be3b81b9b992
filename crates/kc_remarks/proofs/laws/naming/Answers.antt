use Rattle.kc_remarks.proofs.Naming.{naming}
use Rattle.kc_remarks.proofs.laws.naming.Goals as goal

pub returns : goal.returns
returns c = naming
