use Rattle.kc_remarks.proofs.Lived.{attempts_counted}
use Rattle.kc_remarks.proofs.laws.attempts.Goals as goal

pub returns : goal.returns
returns c = attempts_counted
