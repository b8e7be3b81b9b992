use Rattle.kc_live.proofs.Configs.{same_config}
use Rattle.kc_live.proofs.run.is_same_config.Goals as goal

pub returns : goal.returns
returns c = same_config c.args.config.now c.args.other.now c.eq.result c.eq.ensures
