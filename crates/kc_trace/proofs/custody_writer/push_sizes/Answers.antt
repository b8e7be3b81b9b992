use Rattle.std.proofs.Common.{codes}
use Rattle.kc_types.specs.Configuration.{slot_count}
use Rattle.kc_trace.specs.CustodyText.{member}
use Rattle.kc_trace.proofs.Pushed.{four}
use Rattle.kc_trace.proofs.custody_writer.push_sizes.Goals as goal

pub returns-clause-items : goal.returns-clause-items
returns-clause-items c =
    let config = c.args.config.now in
    four c.args.text.now.items c.push_member.new.text.items c.push_member-2.new.text.items c.push_member-3.new.text.items c.push_member-4.new.text.items
    (member (codes ",\"frames\":") config.frames) (member (codes ",\"core\":") config.core) (member (codes ",\"host\":") config.host) (member (codes ",\"slots\":") (slot_count config))
    (rw c.frames.ensures.value at c.push_member.ensures.items) (rw c.core.ensures.value at c.push_member-2.ensures.items) (rw c.host.ensures.value at c.push_member-3.ensures.items) (rw c.slots.ensures.value at c.push_member-4.ensures.items)
