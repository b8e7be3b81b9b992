use Rattle.std.proofs.Common.{codes}
use Rattle.kc_trace.specs.CustodyText.{member, number_text}
use Rattle.kc_trace.proofs.Pushed.{eight}
use Rattle.kc_trace.proofs.summary_writer.push_turns.Goals as goal

pub returns : goal.returns
returns c =
    let life = c.args.life.now in
    eight c.args.text.now.items c.push_member.new.text.items c.push_member-2.new.text.items c.push_bytes.new.text.items c.push_number.new.text.items c.push_bytes-2.new.text.items c.push_number-2.new.text.items c.push_bytes-3.new.text.items c.push_number-3.new.text.items
    (member (codes "{\"vm\":") life.vm) (member (codes ",\"registered\":") life.registered) (codes ",\"active\":") (number_text life.active) (codes ",\"dead\":") (number_text life.dead) (codes ",\"cleared\":") (number_text life.cleared)
    (rw c.in_ok-reserve.ensures.items at c.push_member.ensures.items) c.push_member-2.ensures.items c.push_bytes.ensures.items c.push_number.ensures.items c.push_bytes-2.ensures.items c.push_number-2.ensures.items c.push_bytes-3.ensures.items c.push_number-3.ensures.items
