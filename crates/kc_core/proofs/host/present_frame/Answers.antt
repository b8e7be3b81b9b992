use Rattle.std.proofs.Common.{refl, arith}
use Rattle.std.proofs.lemmas.Grind.{common_steps}
use Rattle.kc_parts.proofs.Looked.{record-seen}
use Rattle.kc_core.proofs.host.present_frame.Goals as goal

pub returns-then-not-record_of-clause-answer : goal.returns-then-not-record_of-clause-answer
returns-then-not-record_of-clause-answer c =
    let seen = record-seen c.args.config.now c.args.parts.now c.args.frame c.in-Some.found c.record_of.result c.in-Some.ensures.value (c.in-Some.ensures.valid.0 refl) c.record_of.ensures in
    grind (arith, common_steps, seen)

pub returns-clause-answer : goal.returns-clause-answer
returns-clause-answer c =
    let seen = record-seen c.args.config.now c.args.parts.now c.args.frame c.in-Some.found c.record_of.result c.in-Some.ensures.value (c.in-Some.ensures.valid.0 refl) c.record_of.ensures in
    grind (arith, common_steps, seen)
