use Rattle.kc_digests.proofs.Maj.{maj_short}
use Rattle.kc_digests.proofs.words.maj.Goals as goal

pub returns : goal.returns
returns g c j h =
    rw (c.xor-3.ensures j h, c.and.ensures j h, c.xor.ensures j h, c.xor-2.ensures j h)
    (maj_short (g.V.Vector.word c.args.x j) (g.V.Vector.word c.args.y j) (g.V.Vector.word c.args.z j))
