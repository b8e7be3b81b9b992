use Rattle.kc_vms.proofs.Rising.{mapped-entries}
use Rattle.kc_vms.proofs.table.Stage2.entries.Goals as goal

pub returns : goal.returns
returns c = let t = c.self.inside.levels in rw (← c.self.view_is, mapped-entries t.root.items t.pool) c.entries_of.ensures
