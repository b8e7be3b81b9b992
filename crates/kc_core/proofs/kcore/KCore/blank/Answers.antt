use Rattle.std.proofs.Common.{sym, ap, ◌∙◌, subst}
use Rattle.kc_parts.specs.Parts.{Held}
use Rattle.kc_parts.specs.States.{state_of}
use Rattle.kc_core.specs.KCore.{IsCore}
use Rattle.kc_core.proofs.Wiped.{state-blank, core-blank}
use Rattle.kc_core.proofs.kcore.KCore.blank.Goals as goal

pub invariant_of-self : goal.invariant_of-self
invariant_of-self c =
    let active = rw (← c.self.view_is) at c.active_slots-active.ensures in
    subst (λ (h : Held). IsCore c.self.inside.config h) (sym c.scrub_marked.ensures) (core-blank c.self.inside.config c.self.inside.parts c.active_slots-active.result active c.self.invariant)

pub returns-clause-state : goal.returns-clause-state
returns-clause-state c =
    let active = rw (← c.self.view_is) at c.active_slots-active.ensures in
    rw (← c.self.view_is) (ap (λ (h : Held). state_of c.self.inside.config h) c.scrub_marked.ensures ∙ state-blank c.self.inside.config c.self.inside.parts c.active_slots-active.result active)

pub returns-clause-reserved : goal.returns-clause-reserved
returns-clause-reserved c = rw (← c.self.view_is) (ap (λ (h : Held). h.is_reserved) c.scrub_marked.ensures)
