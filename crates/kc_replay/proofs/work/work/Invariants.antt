use Rattle.kc_replay.specs.Working.{AnswersAll}
use Rattle.kc_replay.proofs.work.work.Given as goal

abbrev pub invariant-loop-task : goal.invariant-loop-task
invariant-loop-task g l = AnswersAll l.config l.calls l.yielded l.done.items
