use Rattle.kc_model.proofs.Blind.HostBlind.{host_is_blind}
use Rattle.kc_model.proofs.laws.blindness.Goals as goal

pub returns : goal.returns
returns c = host_is_blind
