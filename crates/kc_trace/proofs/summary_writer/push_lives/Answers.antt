use Rattle.kc_trace.specs.SummaryText.{life_line}
use Rattle.kc_trace.proofs.Pushed.{lines_more}
use Rattle.kc_trace.proofs.summary_writer.push_lives.Goals as goal

pub loop-life-preserved : goal.loop-life-preserved
loop-life-preserved c = lines_more (life_line c.args.is_unseen c.args.attempts.now) c.args.text.now.items c.loop-life.life-index c.args.lives.now c.life-item.result c.loop-life.text.items c.push_life.new.text.items c.loop-life-test.true c.life-item.is c.loop-life.invariant c.in_ok-push_life.ensures
