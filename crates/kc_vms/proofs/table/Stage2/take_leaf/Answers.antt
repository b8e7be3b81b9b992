use Rattle.kc_vms.proofs.Filled.{leaf-taken}
use Rattle.kc_vms.proofs.table.Stage2.take_leaf.Goals as goal

pub returns : goal.returns
returns c = rw (← c.self.view_is) (leaf-taken c.self.inside.levels c.leaf_for-leaf.new.self c.args.root c.leaf_for-leaf.result (rw (← c.self.view_is) at c.requires.none) (rw (← c.self.view_is) at c.requires.room) c.leaf_for-leaf.ensures.leaf)
