use Rattle.kc_trace.specs.Machine.{fed}
use Rattle.kc_core.specs.KCore.{state_in}
use Rattle.kc_redact_text.proofs.Whole.{read-redacted, read-whole}
use Rattle.kc_redact_text.proofs.reading.read_calls.Goals as goal

pub returns-in-Some-clause-answer : goal.returns-in-Some-clause-answer
returns-in-Some-clause-answer c = read-whole (state_in c.args.core.now) c.feed.new.self.progress (fed c.args.reader.now c.args.piece.now) c.feed.result c.feed.ensures.answer

pub returns-in-None-clause-answer : goal.returns-in-None-clause-answer
returns-in-None-clause-answer c = rw c.in-None.is (read-redacted c.feed_redacted.new.self.progress (fed c.args.reader.now c.args.piece.now) c.feed_redacted.result c.feed_redacted.ensures.answer)
