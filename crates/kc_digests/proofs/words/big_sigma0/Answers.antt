use Rattle.std.proofs.Common.{refl}
use Rattle.kc_digests.proofs.words.big_sigma0.Goals as goal

pub returns : goal.returns
returns g c j h =
    rw (c.xor-2.ensures j h, c.xor.ensures j h, c.rotate_right.ensures j h, c.rotate_right-2.ensures j h, c.rotate_right-3.ensures j h) refl
