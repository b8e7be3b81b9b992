use Rattle.std.proofs.Common.{◌≡◌, ◌∙◌, rules}
use Rattle.kc_types.specs.Refusals.{number_of}
use Rattle.kc_remarks.proofs.denials.Denials.refused.Goals as goal

pub returns-clause-replies : goal.returns-clause-replies
returns-clause-replies c = λ replies h.
    let same : c.from.result ≡ number_of c.args.refusal = search rules in
    (rw same at c.count_for.ensures) ∙ h.each _
