use Rattle.std.proofs.Common.{refl}
use Rattle.kc_digests.proofs.words.ch.Goals as goal

pub returns : goal.returns
returns g c j h = rw (c.xor.ensures j h, c.and.ensures j h, c.and-2.ensures j h, c.not.ensures j h) refl
