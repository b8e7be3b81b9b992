use Rattle.std.proofs.Common.{ℕ, ◌+◌, ap, ◌∙◌}
use Rattle.kc_remarks.proofs.Counts.{takes_are}
use Rattle.kc_remarks.proofs.denials.Denials.takes.Goals as goal

pub returns-clause-replies : goal.returns-clause-replies
returns-clause-replies c = λ replies h. ap (λ (a : ℕ). c.args.self.now.frames + a) c.refused.ensures.count ∙ takes_are replies c.args.self.now h
