use Rattle.std.proofs.Common.{codes, ◌++◌, [], ◌∷◌}
use Rattle.kc_trace.specs.CustodyText.{member, phase_text, measurement_text}
use Rattle.kc_trace.proofs.Pushed.{six}
use Rattle.kc_trace.proofs.custody_writer.push_phase_change.Goals as goal

pub returns-clause-line : goal.returns-clause-line
returns-clause-line c =
    let change = c.args.change.now in
    six c.args.text.now.items c.push_member.new.text.items c.push_member-2.new.text.items c.push_bytes.new.text.items c.push_phase.new.text.items c.push_measurement.new.text.items c.push_bytes-2.new.text.items
    (member (codes "{\"line\":") change.line) (member (codes ",\"vm\":") change.vm) (codes ",\"phase\":") (phase_text change.phase) (measurement_text change.measurement) (codes "}" ++ 10 ∷ [])
    c.push_member.ensures.items c.push_member-2.ensures.items c.push_bytes.ensures.items c.push_phase.ensures.items c.push_measurement.ensures.items c.push_bytes-2.ensures.items
