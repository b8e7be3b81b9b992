use Rattle.kc_model.proofs.Custody.Written.{own_memory}
use Rattle.kc_model.proofs.laws.own_memory.Goals as goal

pub returns : goal.returns
returns c = own_memory
