use Rattle.std.proofs.Common.{codes}
use Rattle.kc_trace.specs.CustodyText.{member, owner_text, number_text, flag_text}
use Rattle.kc_trace.proofs.Pushed.{eight}
use Rattle.kc_trace.proofs.custody_writer.push_custody.Goals as goal

pub returns-clause-items : goal.returns-clause-items
returns-clause-items c =
    let custody = c.args.custody.now in
    eight c.args.text.now.items c.push_bytes.new.text.items c.push_owner.new.text.items c.push_bytes-2.new.text.items c.push_gfn.new.text.items c.push_member.new.text.items c.push_bytes-3.new.text.items c.push_flag.new.text.items c.push_bytes-4.new.text.items
    (codes "{\"owner\":") (owner_text custody.owner) (codes ",\"gfn\":") (number_text custody.gfn) (member (codes ",\"share\":") custody.share) (codes ",\"present\":") (flag_text custody.present) (codes "}")
    c.push_bytes.ensures.items c.push_owner.ensures.items c.push_bytes-2.ensures.items c.push_gfn.ensures.items c.push_member.ensures.items c.push_bytes-3.ensures.items c.push_flag.ensures.items c.push_bytes-4.ensures.items
