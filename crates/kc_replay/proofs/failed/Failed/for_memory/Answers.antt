use Rattle.std.proofs.Common.{ap, ◌∙◌}
use Rattle.kc_core.specs.KCore.{SeenCore}
use Rattle.kc_replay.proofs.Wiping.{core-wiped}
use Rattle.kc_replay.proofs.failed.Failed.for_memory.Goals as goal

pub returns-clause-wiped : goal.returns-clause-wiped
returns-clause-wiped g c = core-wiped c.args.core.state c.into_parts-config.result.0 c.into_parts-config.result.1 c.into_parts-config.ensures.core (ap (λ (core : SeenCore). core.state) c.into_parts-config.ensures.state ∙ c.wipe.ensures.state)
