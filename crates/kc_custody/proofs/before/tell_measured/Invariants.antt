use Rattle.std.proofs.Common.{◌≡◌, ◌++◌, map, filter}
use Rattle.std.specs.List.{range_with_len}
use Rattle.kc_model.specs.State.{slot_at}
use Rattle.kc_model.specs.Before.{is_measured, turn_before}
use Rattle.kc_custody.proofs.before.tell_measured.Given as goal

-- the slots so far
abbrev pub invariant-loop-vm : goal.invariant-loop-vm
invariant-loop-vm l = l.told.items ≡ l.fn.told.items ++ map (λ v. turn_before (slot_at l.core.state v).phase v) (filter (is_measured l.core.state) (range_with_len 0 l.vm))
