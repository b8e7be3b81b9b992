-- What is noted of frames and of a slot before a call, to be compared after it.
use Rattle.std.specs.Prelude.{ℕ, Bool, not, List, [], ◌∷◌, map, filter, Option, Some, None, if◌then◌else◌}
use Rattle.std.specs.Option.{option_to_list}
use Rattle.kc_types.specs.Slots.{vm_of}
use Rattle.kc_types.specs.declared.call.Call.{Call}
use Rattle.kc_types.specs.declared.call.Call.TheVariants.{HostRead, HostWrite, RegisterVm, Verify, Clear}
use Rattle.kc_types.specs.declared.reply.Reply.{Reply}
use Rattle.kc_types.specs.declared.reply.Reply.TheVariants as reply
use Rattle.kc_types.specs.declared.owner.Owner.{Owner}
use Rattle.kc_types.specs.declared.owner.Owner.TheVariants.{Vm}
use Rattle.kc_types.specs.declared.custody.FrameChange.{FrameChange}
use Rattle.kc_types.specs.declared.custody.PhaseChange.{PhaseChange}
use Rattle.kc_types.specs.declared.custody.Measurement.{Measurement}
use Rattle.kc_types.specs.declared.custody.Change.TheVariants as change
use Rattle.kc_types.specs.declared.custody.Event.{Event}
use Rattle.kc_types.specs.declared.custody.Event.TheVariants as event
use Rattle.kc_model.specs.State.{State, frame_at, slot_at}
use Rattle.kc_model.specs.Custody.{custody_at, same_custody, same_phase, nothing_measured}

-- changes as events
abbrev pub frame_event : FrameChange → Event
frame_event told = event.Change (change.Frame told)

abbrev pub phase_event : PhaseChange → Event
phase_event told = event.Change (change.Phase told)

-- the frame's custody, twice
abbrev pub mark_of : ℕ → State → ℕ → FrameChange
mark_of line m f = record { line = line; frame = f; before = custody_at m f; after = custody_at m f }

-- the mark with what is so afterwards
abbrev pub settled : State → FrameChange → FrameChange
settled new mark = record mark { after = custody_at new mark.frame }

abbrev pub differs : FrameChange → Bool
differs mark = not (same_custody mark.before mark.after)

-- the marks whose frame's custody differs in this state, with what it is there
abbrev pub changed_from : State → List FrameChange → List FrameChange
changed_from new marks = filter differs (map (settled new) marks)

-- the slot whose phase a call may change
abbrev pub turning : Call → Option ℕ
turning (RegisterVm v) = Some v
turning (Verify v) = Some v
turning (Clear v) = Some v
turning _ = None

-- the slot's phase before the call
abbrev pub phase_mark : ℕ → State → ℕ → PhaseChange
phase_mark line m v = record { line = line; vm = v; phase = (slot_at m v).phase; measurement = nothing_measured }

-- the mark as a change, if the phase of the slot differs afterwards
abbrev pub phase_told : State → Measurement → Option PhaseChange → List Event
phase_told new measured None = []
phase_told new measured (Some mark) =
    if same_phase mark.phase (slot_at new mark.vm).phase then [] else phase_event (record mark { phase = (slot_at new mark.vm).phase; measurement = measured }) ∷ []

-- the VM whose frame the host reads or writes
abbrev pub accessed : State → Call → Option ℕ
accessed m (HostRead f off len) = vm_of (frame_at m f).owner
accessed m (HostWrite f off bytes) = vm_of (frame_at m f).owner
accessed m _ = None

-- the host's read or write of this VM's frame, if its reply says that it was served
abbrev pub access_told : Call → Option ℕ → Reply → List Event
access_told (HostRead f off len) vm (reply.Data bytes) = map event.Read (option_to_list vm)
access_told (HostWrite f off bytes) vm reply.Done = map event.Write (option_to_list vm)
access_told _ vm _ = []
