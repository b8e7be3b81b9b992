use Rattle.std.proofs.Common.{refl}
use Rattle.sha2.specs.Sha256.{hash_after}
use Rattle.kc_digests.proofs.measure.MeasureFour.new.Goals as goal

pub returns : goal.returns
unfolding hash_after
returns c = λ j low. record { count = refl; whole = refl; hash = c.initial.ensures j low }
