use Rattle.std.proofs.Common.{sym, ◌∙◌}
use Rattle.kc_vms.proofs.Lookups.{led-taken}
use Rattle.kc_vms.proofs.Tables.{got-none, got-some}
use Rattle.kc_vms.proofs.Changes.{unmapped-none, unmapped-some}
use Rattle.kc_vms.proofs.table.Stage2.unmap.Goals as goal

pub returns-in_err-leaf-clause-value : goal.returns-in_err-leaf-clause-value
returns-in_err-leaf-clause-value c = rw (← c.self.view_is) (c.from_residual.ensures ∙ sym (got-none c.self.inside.levels c.number-number.result c.args.gfn c.number-number.ensures.value c.number-number.ensures.within (sym c.leaf_at.ensures ∙ c.in_err-leaf.was)))

pub returns-in_err-leaf-clause-table : goal.returns-in_err-leaf-clause-table
returns-in_err-leaf-clause-table c = rw (← c.self.view_is) (unmapped-none c.self.inside.levels c.number-number.result c.args.gfn c.number-number.ensures.value c.number-number.ensures.within (sym c.leaf_at.ensures ∙ c.in_err-leaf.was))

pub entry-frame-requires-clause-taken : goal.entry-frame-requires-clause-taken
entry-frame-requires-clause-taken c = led-taken _ _ _ _ _ c.self.invariant.table (sym c.leaf_at.ensures ∙ c.in_ok-leaf.was)

pub set_entry-requires-clause-taken : goal.set_entry-requires-clause-taken
set_entry-requires-clause-taken c = led-taken _ _ _ _ _ c.self.invariant.table (sym c.leaf_at.ensures ∙ c.in_ok-leaf.was)

pub returns-clause-value : goal.returns-clause-value
returns-clause-value c = rw (← c.self.view_is) (c.entry-frame.ensures ∙ sym (got-some c.self.inside.levels c.number-number.result c.args.gfn c.in_ok-leaf.leaf c.number-number.ensures.value c.number-number.ensures.within (sym c.leaf_at.ensures ∙ c.in_ok-leaf.was)))

pub returns-clause-table : goal.returns-clause-table
returns-clause-table c = rw (← c.self.view_is) (unmapped-some c.self.inside.levels c.set_entry.new.self c.number-number.result c.args.gfn c.in_ok-leaf.leaf c.self.invariant c.number-number.ensures.value c.number-number.ensures.within (sym c.leaf_at.ensures ∙ c.in_ok-leaf.was) c.set_entry.ensures.value)
