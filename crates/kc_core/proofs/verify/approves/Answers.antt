use Rattle.std.proofs.Common.{ap, ◌∙◌}
use Rattle.std.specs.List.{list_any}
use Rattle.kc_model.specs.Effects.{same_bytes}
use Rattle.kc_core.proofs.Measuring.{approved-is}
use Rattle.kc_core.proofs.verify.approves.Goals as goal

pub returns : goal.returns
returns c =
    approved-is c.is_approved.result c.new.result c.args.digest.now c.is_approved.ensures
    ∙ ap (list_any (λ other. same_bytes other c.args.digest.now)) (c.new.ensures ∙ c.approved.ensures.value)
