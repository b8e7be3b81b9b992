use Rattle.std.proofs.Common.{inl, inr, refl, sym, ap, ◌∙◌}
use Rattle.std.proofs.lemmas.Bool.{cases_lt}
use Rattle.kc_model.specs.State.{Frame}
use Rattle.kc_parts.proofs.Looked.{record-seen, frame-past}
use Rattle.kc_core.proofs.naming.grants_of.Goals as goal

pub returns-in-Some : goal.returns-in-Some
returns-in-Some c =
    c.from.ensures ∙ (record-seen c.args.config.now c.args.parts.now c.args.frame c.in-Some.frame c.record_of.result c.in-Some.ensures.value (c.in-Some.ensures.valid.0 refl) c.record_of.ensures).share

pub returns-in-None : goal.returns-in-None
returns-in-None c = sym (ap (λ (frame : Frame). frame.share) (frame-past c.args.config.now c.args.parts.now c.args.frame (elim (cases_lt c.args.frame c.args.config.now.frames) [
  | inl low ↦ let no = c.in-None.ensures.valid.1 low in cc
  | inr past ↦ past
])))
