use Rattle.kc_model.proofs.Undisturbed.Traces.{undisturbed_from_boot}
use Rattle.kc_model.proofs.laws.undisturbed_from_boot.Goals as goal

pub returns : goal.returns
returns c = undisturbed_from_boot
