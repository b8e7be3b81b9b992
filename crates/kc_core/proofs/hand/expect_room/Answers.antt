use Rattle.std.proofs.Common.{arith}
use Rattle.std.proofs.lemmas.Grind.{common_steps}
use Rattle.kc_parts.proofs.Looked.{record-linked}
use Rattle.kc_core.proofs.hand.expect_room.Goals as goal

pub returns-then-ne : goal.returns-then-ne
returns-then-ne c =
    let seen = record-linked c.args.config.now c.args.parts.now c.args.frame c.record_of.result c.requires.linked c.record_of.ensures in
    grind (arith, common_steps, seen)

pub returns-then-not-fits_in : goal.returns-then-not-fits_in
returns-then-not-fits_in c =
    let seen = record-linked c.args.config.now c.args.parts.now c.args.frame c.record_of.result c.requires.linked c.record_of.ensures in
    grind (arith, common_steps, seen)

pub returns : goal.returns
returns c =
    let seen = record-linked c.args.config.now c.args.parts.now c.args.frame c.record_of.result c.requires.linked c.record_of.ensures in
    grind (arith, common_steps, seen)
