use Rattle.kc_replay.proofs.Moving as proofs
use Rattle.kc_replay.proofs.laws.moving.Goals as goal

pub returns : goal.returns
returns c = proofs.moving
