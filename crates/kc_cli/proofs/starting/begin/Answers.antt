use Rattle.kc_cli.proofs.starting.begin.Goals as goal

pub returns-in-Boot-clause-config : goal.returns-in-Boot-clause-config
returns-in-Boot-clause-config g c = λ fault e. let is = c.boot_core.ensures.config fault e in (c.in-Boot.is, is.0, is.1)

pub returns-in-State-clause-state : goal.returns-in-State-clause-state
returns-in-State-clause-state g c = λ fault e. let is = c.read_core.ensures.state fault e in (c.in-State.is, is.0, is.1)
