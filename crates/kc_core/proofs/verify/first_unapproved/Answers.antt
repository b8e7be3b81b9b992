use Rattle.std.proofs.Common.{◌≡◌, [], Bool, get_or, sym, ap, ◌∙◌}
use Rattle.std.specs.List.{list_any}
use Rattle.kc_types.specs.declared.custody.MeasuredImage.{MeasuredImage}
use Rattle.kc_model.specs.Effects.{same_bytes}
use Rattle.kc_core.specs.Verifying.{is_approved_digest}
use Rattle.kc_core.proofs.Measuring.{approved-is}
use Rattle.kc_core.proofs.FirstFailing.{none-more, fails-at}
use Rattle.kc_core.proofs.verify.first_unapproved.Goals as goal
use Rattle.kc_core.proofs.verify.first_unapproved.Goals.{After-is_approved}

abbrev none : MeasuredImage
none = record { base = 0; len = 0; digest = [] }

-- looking up the list gives what the configuration says
tested : (c : After-is_approved) → is_approved_digest c.args.config.now (get_or c.args.images.now c.loop-i.i none).digest ≡ c.is_approved.result
tested c =
    let digest = (get_or c.args.images.now c.loop-i.i none).digest in
    sym (approved-is c.is_approved.result c.new-approved.result digest c.is_approved.ensures
    ∙ ap (list_any (λ other. same_bytes other digest)) (c.new-approved.ensures ∙ c.approved.ensures.value))

pub returns-then-not-is_approved : goal.returns-then-not-is_approved
returns-then-not-is_approved c =
    let k = goal.at.returns-then-not-is_approved c in
    let test : MeasuredImage → Bool = λ image. is_approved_digest c.args.config.now image.digest in
    sym (fails-at test c.args.images.now c.loop-i.i none c.loop-i.invariant c.loop-i-test.true (tested k.After-is_approved ∙ c.if-not-is_approved.true))

pub loop-i-preserved : goal.loop-i-preserved
loop-i-preserved c =
    let k = goal.at.loop-i-preserved c in
    let test : MeasuredImage → Bool = λ image. is_approved_digest c.args.config.now image.digest in
    none-more test c.args.images.now c.loop-i.i none c.loop-i.invariant c.loop-i-test.true (tested k.After-is_approved ∙ c.if-not-is_approved.false)
