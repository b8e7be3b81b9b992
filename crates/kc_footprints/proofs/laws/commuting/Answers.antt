use Rattle.kc_footprints.proofs.Commute.{is_commuting, is_commuting_linked}
use Rattle.kc_footprints.proofs.laws.commuting.Goals as goal

pub returns : goal.returns
returns c = record { parts = is_commuting; linked = is_commuting_linked }
