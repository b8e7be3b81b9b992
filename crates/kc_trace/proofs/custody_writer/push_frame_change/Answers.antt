use Rattle.std.proofs.Common.{codes, ◌++◌, [], ◌∷◌}
use Rattle.kc_trace.specs.CustodyText.{member, custody_text}
use Rattle.kc_trace.proofs.Pushed.{seven}
use Rattle.kc_trace.proofs.custody_writer.push_frame_change.Goals as goal

pub returns-clause-line : goal.returns-clause-line
returns-clause-line c =
    let change = c.args.change.now in
    seven c.args.text.now.items c.push_member.new.text.items c.push_member-2.new.text.items c.push_bytes.new.text.items c.push_custody.new.text.items c.push_bytes-2.new.text.items c.push_custody-2.new.text.items c.push_bytes-3.new.text.items
    (member (codes "{\"line\":") change.line) (member (codes ",\"frame\":") change.frame) (codes ",\"from\":") (custody_text change.before) (codes ",\"to\":") (custody_text change.after) (codes "}" ++ 10 ∷ [])
    c.push_member.ensures.items c.push_member-2.ensures.items c.push_bytes.ensures.items c.push_custody.ensures.items c.push_bytes-2.ensures.items c.push_custody-2.ensures.items c.push_bytes-3.ensures.items
