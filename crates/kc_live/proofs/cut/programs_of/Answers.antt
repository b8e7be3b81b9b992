use Rattle.kc_live.proofs.Cuts.{cut-more}
use Rattle.kc_live.proofs.cut.programs_of.Goals as goal

pub loop-call-preserved : goal.loop-call-preserved
loop-call-preserved c = rw c.in_ok-add_call.ensures (cut-more c.loop-call.yielded _ c.in-Some.call c.loop-call.invariant)
