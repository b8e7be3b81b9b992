use Rattle.std.proofs.Common.{◌≡◌, None, take}
use Rattle.kc_types.specs.declared.custody.MeasuredImage.{MeasuredImage}
use Rattle.kc_model.specs.Effects.{first_failing}
use Rattle.kc_core.specs.Verifying.{is_approved_digest}
use Rattle.kc_core.proofs.verify.first_unapproved.Given as goal

-- the images so far are approved
abbrev pub invariant-loop-i : goal.invariant-loop-i
invariant-loop-i l = first_failing (λ (image : MeasuredImage). is_approved_digest l.config image.digest) (take l.i l.images) ≡ None
