use Rattle.kc_vms.proofs.Filled.{root-fresh}
use Rattle.kc_vms.proofs.table.Stage2.take_leaves.Goals as goal

pub take_leaf-requires-clause-none : goal.take_leaf-requires-clause-none
take_leaf-requires-clause-none c = rw c.loop-root.invariant (root-fresh c.args.roots.now c.loop-root.root-index 0 c.loop-root-test.true c.requires.roots.once)
