use Rattle.std.proofs.Common.{◌∙◌, false}
use Rattle.kc_parts.proofs.Writing.{write-place, place-here}
use Rattle.kc_parts.proofs.Blanks.{held-set}
use Rattle.kc_parts.proofs.parts.Parts.lift_page.Goals as goal

pub invariant_of-self : goal.invariant_of-self
invariant_of-self c =
    let p = c.self.inside in
    rw c.set.ensures (held-set p.numbers p.filled p.pages c.place_of-at.result false c.swap.new.x (λ _. c.swap.ensures.x_after ∙ c.requires.blank) c.self.invariant)

pub returns-clause-rest : goal.returns-clause-rest
returns-clause-rest c =
    let p = c.self.inside in
    let low = place-here p.numbers p.filled p.pages c.args.number (rw (← c.self.view_is) at c.requires.here) in
    rw (← c.self.view_is, c.set.ensures) (write-place p.numbers p.filled p.pages p.vms p.free p.is_reserved c.args.number c.place_of-at.result false c.swap.new.x c.self.invariant c.place_of-at.ensures low)
