use Rattle.kc_model.proofs.Promises.{promises_kept}
use Rattle.kc_replay.proofs.segment.answer_segment.Goals as goal

pub returns-then-is_planned-clause-promises : goal.returns-then-is_planned-clause-promises
returns-then-is_planned-clause-promises g c = promises_kept c.args.core.state c.args.calls.now c.requires.lawful

pub returns-clause-promises : goal.returns-clause-promises
returns-clause-promises g c = promises_kept c.args.core.state c.args.calls.now c.requires.lawful
