use Rattle.kc_footprints.proofs.Commute.{is_stepping}
use Rattle.kc_footprints.proofs.laws.stepping.Goals as goal

pub returns : goal.returns
returns c = is_stepping
