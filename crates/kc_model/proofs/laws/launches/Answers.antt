use Rattle.kc_model.proofs.Launches.{apart, launch-of}
use Rattle.kc_model.proofs.laws.launches.Goals as goal

pub returns-clause-apart : goal.returns-clause-apart
returns-clause-apart c = apart

pub returns-clause-digest : goal.returns-clause-digest
returns-clause-digest c = launch-of
