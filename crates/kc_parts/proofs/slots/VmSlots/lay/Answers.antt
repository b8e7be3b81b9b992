use Rattle.std.proofs.Common.{Some}
use Rattle.kc_parts.proofs.Cells.{slot-write}
use Rattle.kc_parts.proofs.slots.VmSlots.lay.Goals as goal

pub returns : goal.returns
returns c =
    let p = c.self.inside in
    rw (← c.self.view_is) (slot-write p.numbers.items p.slots.items c.args.number c.place-at.result (Some c.args.vm) c.self.invariant (rw (← c.self.view_is) at c.place-at.ensures.place) (rw (← c.self.view_is) at c.requires))
