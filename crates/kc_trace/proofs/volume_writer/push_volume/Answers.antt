use Rattle.std.proofs.Common.{codes, ◌++◌, [], ◌∷◌}
use Rattle.kc_trace.specs.CustodyText.{member, head_number_text, trace_text, volume_line}
use Rattle.kc_trace.proofs.Pushed.{six}
use Rattle.kc_trace.proofs.volume_writer.push_volume.Goals as goal

pub returns-clause-line : goal.returns-clause-line
unfolding volume_line
returns-clause-line c =
    let volume = c.args.volume.now in
    six c.args.text.now.items c.push_place.new.text.items c.push_member.new.text.items c.push_member-2.new.text.items c.push_head_number.new.text.items c.push_trace.new.text.items c.push_bytes.new.text.items
    (member (codes "{\"volume\":") c.args.place) (member (codes ",\"line\":") volume.line) (member (codes ",\"calls\":") volume.calls) (head_number_text volume.number) (trace_text volume.digest) (codes "}" ++ 10 ∷ [])
    c.push_place.ensures.items c.push_member.ensures.items c.push_member-2.ensures.items c.push_head_number.ensures.items c.push_trace.ensures.items c.push_bytes.ensures.items
