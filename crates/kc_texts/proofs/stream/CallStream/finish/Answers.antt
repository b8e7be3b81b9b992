use Rattle.kc_texts.proofs.Fed.{ends_a_trace, ends_with, ends_refused}
use Rattle.kc_texts.proofs.stream.CallStream.finish.Goals as goal

pub returns-clause-ok : goal.returns-clause-ok
returns-clause-ok c = rw (← c.self.view_is) (ends_a_trace _ c.finish.result c.finish.ensures.fault)

pub returns-clause-header : goal.returns-clause-header
returns-clause-header c = rw (← c.self.view_is) (ends_with (record { reader = c.self.inside.reader; total = c.self.inside.total }) c.finish.result c.finish.ensures.fault)

pub returns-clause-trace : goal.returns-clause-trace
returns-clause-trace c = λ fault e. rw (← c.self.view_is) (ends_refused _ c.finish.result fault c.finish.ensures.fault e)
