use Rattle.std.proofs.Common.{sym, subst}
use Rattle.kc_snapshot.specs.Told.{Told}
use Rattle.kc_snapshot.specs.Unlawful.{IsUnlawful}
use Rattle.kc_snapshot.proofs.Refused.{never-refused}
use Rattle.kc_snapshot.proofs.laws.unlawful.Goals as goal

pub returns : goal.returns
returns c = λ t why other refused m is same. never-refused m is why other (subst (λ (told : Told). IsUnlawful told why) (sym same) refused)
