use Rattle.std.proofs.Common.{sym, ◌∙◌}
use Rattle.kc_core.proofs.Ended.{free-some, free-none}
use Rattle.kc_core.proofs.kcore.KCore.free_ends.Goals as goal

pub returns-in-Some : goal.returns-in-Some
returns-in-Some c = rw (← c.self.view_is) (free-some c.self.inside.config c.self.inside.parts c.self.invariant c.in-Some.ends.now (sym c.in-Some.ensures))

pub returns-in-None : goal.returns-in-None
returns-in-None c = rw (← c.self.view_is) (c.empty.ensures ∙ free-none c.self.inside.config c.self.inside.parts c.self.invariant (sym c.in-None.ensures))
