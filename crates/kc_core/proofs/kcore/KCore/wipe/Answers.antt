use Rattle.std.proofs.Common.{sym, ap, ◌∙◌, subst}
use Rattle.kc_parts.specs.Parts.{Held}
use Rattle.kc_parts.specs.States.{state_of}
use Rattle.kc_core.specs.KCore.{IsCore}
use Rattle.kc_core.proofs.Wiped.{state-clean, core-clean}
use Rattle.kc_core.proofs.kcore.KCore.wipe.Goals as goal

pub invariant_of-self : goal.invariant_of-self
invariant_of-self g c = subst (λ (h : Held). IsCore c.self.inside.config h) (sym c.wipe.ensures) (core-clean c.self.inside.config c.self.inside.parts c.self.invariant)

pub returns-clause-state : goal.returns-clause-state
returns-clause-state g c = rw (← c.self.view_is) (ap (λ (h : Held). state_of c.self.inside.config h) c.wipe.ensures ∙ state-clean c.self.inside.config c.self.inside.parts)

pub returns-clause-reserved : goal.returns-clause-reserved
returns-clause-reserved g c = rw (← c.self.view_is) (ap (λ (h : Held). h.is_reserved) c.wipe.ensures)
