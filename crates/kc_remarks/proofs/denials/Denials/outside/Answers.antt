use Rattle.std.proofs.Common.{ℕ, ◌+◌, ap₂, ◌∙◌}
use Rattle.kc_remarks.proofs.Counts.{outside_is}
use Rattle.kc_remarks.proofs.denials.Denials.outside.Goals as goal

pub returns-clause-replies : goal.returns-clause-replies
returns-clause-replies c = λ replies h. ap₂ (λ (a b : ℕ). a + b) c.refused.ensures.count c.refused-2.ensures.count ∙ outside_is replies c.args.self.now h
