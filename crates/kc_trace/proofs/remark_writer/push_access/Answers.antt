use Rattle.std.proofs.Common.{codes, ◌++◌, [], ◌∷◌}
use Rattle.kc_trace.specs.CustodyText.{member, number_text}
use Rattle.kc_trace.specs.RemarkText.{head_text}
use Rattle.kc_trace.proofs.Pushed.{eight}
use Rattle.kc_trace.proofs.remark_writer.push_access.Goals as goal

pub returns-clause-line : goal.returns-clause-line
returns-clause-line c =
    let told = c.args.access.now in
    eight c.args.text.now.items c.push_head.new.text.items c.push_member.new.text.items c.push_member-2.new.text.items c.push_bytes.new.text.items c.push_gfn.new.text.items c.push_member-3.new.text.items c.push_member-4.new.text.items c.push_bytes-2.new.text.items
    (head_text told.line told.call) (member (codes ",\"frame\":") told.frame) (member (codes ",\"vm\":") told.vm) (codes ",\"gfn\":") (number_text told.gfn) (member (codes ",\"off\":") told.offset) (member (codes ",\"len\":") told.len) (codes "}" ++ 10 ∷ [])
    c.push_head.ensures.items c.push_member.ensures.items c.push_member-2.ensures.items c.push_bytes.ensures.items c.push_gfn.ensures.items c.push_member-3.ensures.items c.push_member-4.ensures.items c.push_bytes-2.ensures.items
