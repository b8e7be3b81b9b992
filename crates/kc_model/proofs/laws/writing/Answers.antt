use Rattle.kc_model.proofs.Safe.Writing.{written-only}
use Rattle.kc_model.proofs.laws.writing.Goals as goal

pub returns : goal.returns
returns c = written-only
