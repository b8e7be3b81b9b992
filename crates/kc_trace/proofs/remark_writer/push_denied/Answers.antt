use Rattle.std.proofs.Common.{codes, ◌++◌, [], ◌∷◌}
use Rattle.kc_trace.specs.RemarkText.{head_text, reason_text, slot_text, named_text}
use Rattle.kc_trace.proofs.Pushed.{five}
use Rattle.kc_trace.proofs.remark_writer.push_denied.Goals as goal

pub returns-clause-line : goal.returns-clause-line
returns-clause-line c =
    let told = c.args.denied.now in
    five c.args.text.now.items c.push_head.new.text.items c.push_reason.new.text.items c.push_slot.new.text.items c.push_named.new.text.items c.push_bytes.new.text.items
    (head_text told.line told.call) (reason_text told.reason) (slot_text told.slot) (named_text told.foreign told.named) (codes "}" ++ 10 ∷ [])
    c.push_head.ensures.items c.push_reason.ensures.items c.push_slot.ensures.items c.push_named.ensures.items c.push_bytes.ensures.items
