-- What is so before the first call: a state, as events that change the boot state of its configuration into it.
use Rattle.std.specs.Prelude.{ℕ, Bool, not, ◌&&◌, List, ◌++◌, map, filter}
use Rattle.std.specs.List.{range_with_len}
use Rattle.kc_types.specs.Configuration.{slot_count}
use Rattle.kc_types.specs.declared.slot.Phase.{Phase}
use Rattle.kc_types.specs.declared.slot.Phase.TheVariants.{Empty, Booting}
use Rattle.kc_types.specs.declared.custody.FrameChange.{FrameChange}
use Rattle.kc_types.specs.declared.custody.Change.TheVariants as change
use Rattle.kc_types.specs.declared.custody.Event.{Event}
use Rattle.kc_types.specs.declared.custody.Event.TheVariants as event
use Rattle.kc_types.specs.declared.custody.Life.{Life}
use Rattle.kc_model.specs.State.{State, slot_at}
use Rattle.kc_model.specs.Boot.{boot}
use Rattle.kc_model.specs.Custody.{same_phase, frame_changes_by, nothing_measured}
use Rattle.kc_model.specs.Lives.{lives}

-- the line of a trace's header, on which no call is
abbrev pub header_line : ℕ
header_line = 1

-- whether there is a VM in the slot
abbrev pub is_taken : State → ℕ → Bool
is_taken m v = not (same_phase (slot_at m v).phase Empty)

-- whether it has been measured
abbrev pub is_measured : State → ℕ → Bool
is_measured m v = is_taken m v && not (same_phase (slot_at m v).phase Booting)

-- the slot comes to be in this phase; what was measured when it became active or dead is not known
abbrev pub turn_before : Phase → ℕ → Event
turn_before phase v = event.Change (change.Phase (record { line = header_line; vm = v; phase = phase; measurement = nothing_measured }))

abbrev pub frame_before : FrameChange → Event
frame_before told = event.Change (change.Frame told)

abbrev pub slots_that : (State → ℕ → Bool) → State → List ℕ
slots_that test m = filter (test m) (range_with_len 0 (slot_count m.config))

-- all VMs are registered, then each frame that is not as at boot comes to be as it is, then the VMs that have been measured come to be so
abbrev pub events_before : State → List Event
events_before m =
    map (turn_before Booting) (slots_that is_taken m)
    ++ (map frame_before (frame_changes_by header_line (boot m.config) m)
    ++ map (λ v. turn_before (slot_at m v).phase v) (slots_that is_measured m))

-- the lives that events give after this state, with those that are under way in it: what came about before the first call has the header's line
abbrev pub lives_from : State → List Event → List Life
lives_from m told = lives (events_before m ++ told)
