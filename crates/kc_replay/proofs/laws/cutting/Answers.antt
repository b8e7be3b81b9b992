use Rattle.kc_replay.proofs.Cutting.{replies-joined, state-joined}
use Rattle.kc_replay.proofs.laws.cutting.Goals as goal

pub returns-clause-replies : goal.returns-clause-replies
returns-clause-replies c = replies-joined

pub returns-clause-state : goal.returns-clause-state
returns-clause-state c = state-joined
