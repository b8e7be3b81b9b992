use Rattle.std.proofs.Common.{◌≡◌, Err, ap}
use Rattle.kc_faults.specs.declared.fault.TextFault.TheVariants as texts
use Rattle.kc_cli.proofs.starting.read_start.Goals as goal

pub returns-in-Err-clause-config : goal.returns-in-Err-clause-config
returns-in-Err-clause-config g c = λ said e. let same : c.in-Err.fault ≡ texts.Config said = cc in c.in-Err.ensures.config said (ap Err same)

pub returns-in-Err-clause-state : goal.returns-in-Err-clause-state
returns-in-Err-clause-state g c = λ said e. let same : c.in-Err.fault ≡ texts.State said = cc in c.in-Err.ensures.state said (ap Err same)
