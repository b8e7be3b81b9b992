use Rattle.kc_session.proofs.Traced.{with_one_more}
use Rattle.kc_session.proofs.session.Session.make.Goals as goal

pub invariant_of-self-2 : goal.invariant_of-self-2
invariant_of-self-2 c = rw (c.in-Ok.ensures.entry, c.in_ok-ready.ensures) (with_one_more _ _ c.self.invariant c.requires)
