use Rattle.std.proofs.Common.{codes}
use Rattle.kc_trace.specs.CustodyText.{member, number_text}
use Rattle.kc_trace.proofs.Pushed.{eight}
use Rattle.kc_trace.proofs.summary_writer.push_sharing.Goals as goal

pub returns : goal.returns
returns c =
    let sharing = c.args.sharing.now in
    eight c.args.text.now.items c.push_bytes.new.text.items c.push_member.new.text.items c.push_bytes-2.new.text.items c.push_gfn.new.text.items c.push_member-2.new.text.items c.push_bytes-3.new.text.items c.push_number.new.text.items c.push_bytes-4.new.text.items
    c.args.before.now (member (codes "{\"frame\":") sharing.frame) (codes ",\"gfn\":") (number_text sharing.gfn) (member (codes ",\"from\":") sharing.from) (codes ",\"to\":") (number_text sharing.to) (codes "}")
    (rw c.in_ok-reserve.ensures.items at c.push_bytes.ensures.items) c.push_member.ensures.items c.push_bytes-2.ensures.items c.push_gfn.ensures.items c.push_member-2.ensures.items c.push_bytes-3.ensures.items c.push_number.ensures.items c.push_bytes-4.ensures.items
