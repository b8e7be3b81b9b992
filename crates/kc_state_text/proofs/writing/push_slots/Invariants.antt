use Rattle.std.proofs.Common.{◌≡◌, ◌++◌, take}
use Rattle.std.specs.List.{flat_map}
use Rattle.kc_model.specs.State.{Slot}
use Rattle.kc_snapshot.specs.Told.{slot_rest}
use Rattle.kc_state_text.specs.StateText.{slot_line}
use Rattle.kc_state_text.proofs.writing.push_slots.Given as goal

abbrev pub invariant-loop-vm : goal.invariant-loop-vm
invariant-loop-vm l = l.text.items ≡ l.initial.text.items ++ flat_map (λ (slot : Slot). slot_line (slot_rest slot)) (take l.vm l.core.state.slots)
