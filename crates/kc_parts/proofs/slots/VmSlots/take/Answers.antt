use Rattle.std.proofs.Common.{None, refl, arith}
use Rattle.kc_parts.proofs.Cells.{slot-write}
use Rattle.kc_parts.proofs.slots.VmSlots.take.Goals as goal

pub returns-clause-rest : goal.returns-clause-rest
returns-clause-rest c =
    let p = c.self.inside in
    let is = rw (← c.self.view_is) at c.place-at.ensures.place in
    rw (← c.self.view_is, c.take.ensures.after) (slot-write p.numbers.items p.slots.items c.args.number c.place-at.result None c.self.invariant is (rw (← is) (let low = c.in_ok-get_mut.ensures.variant.0 refl in omega (arith, low, c.self.invariant.places, p.slots.ok.0))))
