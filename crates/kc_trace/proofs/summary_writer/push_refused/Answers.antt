use Rattle.std.proofs.Common.{codes}
use Rattle.kc_trace.specs.SummaryText.{reasons_text}
use Rattle.kc_trace.proofs.Pushed.{three}
use Rattle.kc_trace.proofs.summary_writer.push_refused.Goals as goal

pub returns : goal.returns
returns c =
    three c.args.text.now.items c.push_bytes.new.text.items c.push_rest.new.text.items c.push_bytes-2.new.text.items (codes ",\"refused\":{") (reasons_text c.args.attempts.now) (codes "}")
    (rw c.in_ok-reserve.ensures.items at c.push_bytes.ensures.items) (rw (c.deref.ensures.value, c.in_ok-reasons.ensures) at c.push_rest.ensures.items) c.push_bytes-2.ensures.items
