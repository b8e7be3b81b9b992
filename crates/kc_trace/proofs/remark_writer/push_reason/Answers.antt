use Rattle.std.proofs.Common.{codes}
use Rattle.kc_types.specs.Refusals.{name_of}
use Rattle.kc_trace.proofs.Pushed.{three}
use Rattle.kc_trace.proofs.remark_writer.push_reason.Goals as goal

pub returns-in-Refused-clause-items : goal.returns-in-Refused-clause-items
returns-in-Refused-clause-items c =
    rw c.in-Refused.is (three c.args.text.now.items c.push_bytes.new.text.items c.push_refusal.new.text.items c.push_bytes-in-Refused.new.text.items
    (codes ",\"refused\":\"") (name_of c.in-Refused.refusal) (codes "\"") c.push_bytes.ensures.items c.push_refusal.ensures.items c.push_bytes-in-Refused.ensures.items)
