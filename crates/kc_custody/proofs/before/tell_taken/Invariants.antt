use Rattle.std.proofs.Common.{◌≡◌, ◌++◌, map, filter}
use Rattle.std.specs.List.{range_with_len}
use Rattle.kc_types.specs.declared.slot.Phase.TheVariants.{Booting}
use Rattle.kc_model.specs.Before.{is_taken, turn_before}
use Rattle.kc_custody.proofs.before.tell_taken.Given as goal

-- the slots so far
abbrev pub invariant-loop-vm : goal.invariant-loop-vm
invariant-loop-vm l = l.told.items ≡ l.fn.told.items ++ map (turn_before Booting) (filter (is_taken l.core.state) (range_with_len 0 l.vm))
