use Rattle.std.proofs.Common.{◌≡◌, take}
use Rattle.kc_vms.proofs.table.Stage2.take_leaves.Given as goal

abbrev pub invariant-loop-root : goal.invariant-loop-root
invariant-loop-root l = l.self ≡ record l.initial.self { leaves = take l.root-index l.roots }
