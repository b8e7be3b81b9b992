use Rattle.kc_cli.proofs.Begun.{replay_fault}
use Rattle.kc_cli.proofs.live.made_live.Goals as goal

pub returns-in-Err-replayed-clause-fault : goal.returns-in-Err-replayed-clause-fault
returns-in-Err-replayed-clause-fault g c = replay_fault c.args.config c.args.calls.items c.in-Err-replayed.cause c.fault_of-in-Err-replayed.result c.in-Err-replayed.ensures.cause c.fault_of-in-Err-replayed.ensures c.in-Ok-run_trace.ensures.sound
