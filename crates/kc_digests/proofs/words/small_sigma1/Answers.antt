use Rattle.std.proofs.Common.{refl}
use Rattle.kc_digests.proofs.words.small_sigma1.Goals as goal

pub returns : goal.returns
returns g c j h =
    rw (c.xor-2.ensures j h, c.xor.ensures j h, c.rotate_right.ensures j h, c.rotate_right-2.ensures j h, c.shift_right.ensures j h) refl
