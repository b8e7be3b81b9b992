use Rattle.std.proofs.Common.{refl, sym, subst}
use Rattle.kc_session.specs.Session.{Kept, GoesOnFrom}
use Rattle.kc_session.proofs.Begun.{may_begin, memory_of_any}
use Rattle.kc_session.proofs.session.Session.resume.Goals as goal

pub of-requires-clause-header : goal.of-requires-clause-header
of-requires-clause-header c = may_begin c.in_ok-read.read.position c.in_ok-read.read.core.state c.in_ok-read.ensures.position c.in_ok-read.ensures.core

pub returns-in-Ok-clause-resumed : goal.returns-in-Ok-clause-resumed
returns-in-Ok-clause-resumed c =
    subst (λ (kept : Kept). GoesOnFrom kept c.args.text.now) (sym c.in-Ok.ensures)
    (c.in_ok-read.read.position, c.in_ok-read.ensures.position, c.in_ok-read.ensures.state, c.in_ok-read.ensures.core, refl)

pub returns-in-Err-clause-refused : goal.returns-in-Err-clause-refused
returns-in-Err-clause-refused c = memory_of_any c.args.text.now c.in_ok-read.read.position c.in_ok-read.read.core.state c.in_ok-read.ensures.position c.in_ok-read.ensures.state
