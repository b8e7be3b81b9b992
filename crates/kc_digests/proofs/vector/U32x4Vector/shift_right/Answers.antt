use Rattle.std.proofs.Common.{◌/◌, ◌^◌}
use Rattle.kc_digests.proofs.LaneLemmas.{slice_index-zip2_splat}
use Rattle.kc_digests.proofs.vector.U32x4Vector.shift_right.Goals as goal

pub returns : goal.returns
returns c = λ j low. slice_index-zip2_splat (λ x n. x / 2 ^ n) 4 c.args.self c.args.count j c.fits-self.0 low
