use Rattle.kc_footprints.proofs.Commute.{has_needs}
use Rattle.kc_footprints.proofs.laws.needs.Goals as goal

pub returns : goal.returns
returns c = has_needs
