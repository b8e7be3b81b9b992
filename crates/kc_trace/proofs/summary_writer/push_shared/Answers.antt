use Rattle.std.proofs.Common.{codes, ◌++◌, [], ◌∷◌}
use Rattle.kc_trace.specs.SummaryText.{sharings_text}
use Rattle.kc_trace.proofs.Pushed.{three}
use Rattle.kc_trace.proofs.summary_writer.push_shared.Goals as goal

pub returns : goal.returns
returns c =
    three c.args.text.now.items c.push_bytes.new.text.items c.push_sharings.new.text.items c.push_bytes-2.new.text.items (codes ",\"shared\":[") (sharings_text c.args.life.now.shared) (codes "]}" ++ 10 ∷ [])
    (rw c.in_ok-reserve.ensures.items at c.push_bytes.ensures.items) (rw c.as_slice.ensures at c.in_ok-push_sharings.ensures) (rw c.in_ok-reserve-2.ensures.items at c.push_bytes-2.ensures.items)
