use Rattle.kc_session.proofs.Begun.{memory_of_any}
use Rattle.kcore_c.proofs.session.resumed.Goals as goal

pub returns-clause-fault : goal.returns-clause-fault
returns-clause-fault c = let on = c.in_ok-session.ensures.resumed in memory_of_any c.args.text.now on.0 c.in_ok-session.session.log.state on.1 on.2
