use Rattle.kc_session.specs.Session.{kept_of}
use Rattle.kc_session.proofs.Traced.{is_trace}
use Rattle.kc_session.proofs.session.Session.lines.Goals as goal

pub returns-clause-trace : goal.returns-clause-trace
returns-clause-trace c =
    let kept = kept_of c.self.inside.journal c.self.inside.changes.items in
    rw (← c.self.view_is) (is_trace kept c.header-header.ensures.header c.self.invariant c.entries.ensures.short)
