use Rattle.kc_live.proofs.Judged.{callers-more}
use Rattle.kc_live.proofs.cut.first_unknown.Goals as goal

pub loop-at-preserved : goal.loop-at-preserved
loop-at-preserved c =
    callers-more c.args.config.now c.args.calls.now c.loop-at.at c.index-calls-at.result c.index-calls-at.is c.loop-at-test.true c.loop-at.invariant (rw c.actor_of.ensures at c.is_actor.ensures.0 c.if-not-is_actor.false)
