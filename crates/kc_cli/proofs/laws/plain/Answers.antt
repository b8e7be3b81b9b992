use Rattle.kc_cli.proofs.Plain.{plain}
use Rattle.kc_cli.proofs.laws.plain.Goals as goal

pub returns : goal.returns
returns c = plain
