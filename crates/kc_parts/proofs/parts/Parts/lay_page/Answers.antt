use Rattle.std.proofs.Common.{true}
use Rattle.kc_parts.proofs.Writing.{write-place}
use Rattle.kc_parts.proofs.Blanks.{held-set}
use Rattle.kc_parts.proofs.parts.Parts.lay_page.Goals as goal

pub invariant_of-self : goal.invariant_of-self
invariant_of-self c =
    let p = c.self.inside in
    rw c.set.ensures (held-set p.numbers p.filled p.pages c.place_of-at.result true c.args.page (λ no. cc) c.self.invariant)

pub returns : goal.returns
returns c =
    let p = c.self.inside in
    rw (← c.self.view_is, c.set.ensures)
    (write-place p.numbers p.filled p.pages p.vms p.free p.is_reserved c.args.number c.place_of-at.result true c.args.page c.self.invariant c.place_of-at.ensures (rw (← c.self.view_is) at c.requires.0))
