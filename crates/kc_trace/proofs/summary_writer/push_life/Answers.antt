use Rattle.std.proofs.lemmas.Result.{on_ok_weaker}
use Rattle.kc_remarks.specs.Attempts.{attempts_in_life}
use Rattle.kc_trace.specs.CustodyText.{measurement_text}
use Rattle.kc_trace.specs.SummaryText.{turns_text, counts_text, refused_text, shared_text}
use Rattle.kc_trace.proofs.Pushed.{five}
use Rattle.kc_trace.proofs.summary_writer.push_life.Goals as goal

pub returns : goal.returns
returns c =
    let life = c.args.life.now in
    on_ok_weaker c.push_shared.result
    (five c.args.text.now.items c.push_turns.new.text.items c.push_life_measurement.new.text.items c.push_counts.new.text.items c.push_refused.new.text.items c.push_shared.new.text.items
    (turns_text life) (measurement_text life.measurement) (counts_text c.args.is_unseen life) (refused_text (attempts_in_life life c.args.attempts.now)) (shared_text life)
    c.in_ok-push_turns.ensures c.in_ok-push_life_measurement.ensures c.in_ok-push_counts.ensures (rw (c.deref.ensures.value, c.in_ok-own.ensures) at c.in_ok-push_refused.ensures))
    c.push_shared.ensures
