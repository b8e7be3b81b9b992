use Rattle.kc_footprints.proofs.Reordered.{is_ready}
use Rattle.kc_footprints.proofs.laws.readiness.Goals as goal

pub returns : goal.returns
returns c = is_ready
