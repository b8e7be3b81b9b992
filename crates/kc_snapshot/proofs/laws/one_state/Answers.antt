use Rattle.kc_snapshot.proofs.OneState.{one-state}
use Rattle.kc_snapshot.proofs.laws.one_state.Goals as goal

pub returns : goal.returns
returns c = one-state
