use Rattle.std.proofs.Common.{true}
use Rattle.kc_model.proofs.Lawful.AtBoot.{lawful-boot}
use Rattle.kc_core.proofs.Cored.{core-booted}
use Rattle.kc_core.proofs.kcore.KCore.boot.Goals as goal

pub invariant_of-result : goal.invariant_of-result
invariant_of-result c = core-booted c.args.config true c.in_ok-parts.parts c.in_ok-parts.ensures.parts c.in_ok-parts.ensures.config

pub returns-clause-state : goal.returns-clause-state
returns-clause-state c = c.in_ok-parts.ensures.parts.state

pub returns-clause-reserved : goal.returns-clause-reserved
returns-clause-reserved c = c.in_ok-parts.ensures.parts.reserved

pub returns-clause-lawful : goal.returns-clause-lawful
returns-clause-lawful c = lawful-boot c.args.config c.in_ok-parts.ensures.config
