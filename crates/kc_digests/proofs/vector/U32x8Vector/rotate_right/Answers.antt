use Rattle.kc_digests.proofs.LaneLemmas.{shifts_rotate}
use Rattle.kc_digests.proofs.vector.U32x8Vector.rotate_right.Goals as goal

pub returns : goal.returns
returns c = shifts_rotate c.args.count c.requires.0 c.requires.1 8 c.args.self c.fits-self.0
