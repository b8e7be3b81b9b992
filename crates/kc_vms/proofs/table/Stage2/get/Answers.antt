use Rattle.std.proofs.Common.{sym, ◌∙◌}
use Rattle.kc_vms.proofs.Lookups.{led-taken}
use Rattle.kc_vms.proofs.Tables.{got-none, got-some}
use Rattle.kc_vms.proofs.table.Stage2.get.Goals as goal

pub returns-in_err-leaf : goal.returns-in_err-leaf
returns-in_err-leaf c = rw (← c.self.view_is) (c.from_residual.ensures ∙ sym (got-none c.self.inside.levels c.number-number.result c.args.gfn c.number-number.ensures.value c.number-number.ensures.within (sym c.leaf_at.ensures ∙ c.in_err-leaf.was)))

pub entry-requires-clause-taken : goal.entry-requires-clause-taken
entry-requires-clause-taken c = led-taken _ _ _ _ _ c.self.invariant.table (sym c.leaf_at.ensures ∙ c.in_ok-leaf.was)

pub returns : goal.returns
returns c = rw (← c.self.view_is) (c.entry.ensures ∙ sym (got-some c.self.inside.levels c.number-number.result c.args.gfn c.in_ok-leaf.leaf c.number-number.ensures.value c.number-number.ensures.within (sym c.leaf_at.ensures ∙ c.in_ok-leaf.was)))
