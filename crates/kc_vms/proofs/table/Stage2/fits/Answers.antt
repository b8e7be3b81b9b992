use Rattle.std.proofs.Common.{◌≡◌, true, false, length, rules, sym, ◌∙◌}
use Rattle.kc_vms.proofs.Changes.{fits-by}
use Rattle.kc_vms.proofs.table.Stage2.fits.Goals as goal

pub returns-then-is_some : goal.returns-then-is_some
returns-then-is_some c = rw (← c.self.view_is) (c.if-is_some.true ∙ fits-by c.self.inside.levels c.number.result c.args.gfn c.leaf_at.result true c.self.invariant c.number.ensures.value (sym c.leaf_at.ensures) (sym c.is_some.ensures ∙ c.if-is_some.true))

pub returns-else-is_some : goal.returns-else-is_some
returns-else-is_some c =
    let count : c.len.result ≡ length c.self.inside.levels.leaves.items = search rules in
    rw (← c.self.view_is, count, c.capacity.ensures.value) (fits-by c.self.inside.levels c.number.result c.args.gfn c.leaf_at.result false c.self.invariant c.number.ensures.value (sym c.leaf_at.ensures) (sym c.is_some.ensures ∙ c.if-is_some.false))
