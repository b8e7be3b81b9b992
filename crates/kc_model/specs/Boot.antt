-- The state that the core starts in.
use Rattle.std.specs.Prelude.{ℕ, ◌+◌, ◌-◌, List, map, replicate}
use Rattle.std.specs.List.{range_with_len}
use Rattle.kc_types.specs.Configuration.{Configuration, slot_count, boot_owner}
use Rattle.kc_model.specs.State.{Frame, State, Slot, untouched, empty_slot}

-- each frame is untouched, and its owner's by its number
abbrev pub boot_frame : Configuration → ℕ → Frame
boot_frame c f = untouched (boot_owner c f)

-- the slots of a core without VMs
unfoldable pub no_vms : Configuration → List Slot
no_vms c = replicate (slot_count c) (empty_slot c.version)

abbrev pub boot : Configuration → State
boot c = record {
  config = c;
  frames = map (boot_frame c) (range_with_len 0 c.frames);
  free = range_with_len (c.core + c.host) (c.frames - (c.core + c.host));
  slots = no_vms c;
}
