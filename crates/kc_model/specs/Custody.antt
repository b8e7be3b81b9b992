-- Custody: what is reported of each frame and slot, and every change of it, call by call.
use Rattle.std.specs.Prelude.{ℕ, ◌+◌, Bool, true, false, not, ◌&&◌, ◌==◌, List, [], ◌∷◌, ◌++◌, map, filter, Option, Some, None, if◌then◌else◌}
use Rattle.std.specs.List.{range_with_len}
use Rattle.sha2.specs.Sha256.{sha256}
use Rattle.kc_types.specs.Configuration.{slot_count, measures_launch}
use Rattle.kc_types.specs.declared.call.Call.{Call}
use Rattle.kc_types.specs.declared.call.Call.TheVariants.{Verify}
use Rattle.kc_types.specs.declared.refusal.Refusal.{Refusal}
use Rattle.kc_types.specs.declared.slot.Phase.{Phase}
use Rattle.kc_types.specs.declared.slot.Phase.TheVariants.{Empty, Booting, Active, Dead}
use Rattle.kc_types.specs.declared.custody.Custody.{Custody}
use Rattle.kc_types.specs.declared.custody.FrameChange.{FrameChange}
use Rattle.kc_types.specs.declared.custody.MeasuredImage.{MeasuredImage}
use Rattle.kc_types.specs.declared.custody.Measurement.{Measurement}
use Rattle.kc_types.specs.declared.custody.PhaseChange.{PhaseChange}
use Rattle.kc_types.specs.declared.custody.Change.{Change}
use Rattle.kc_types.specs.declared.custody.Change.TheVariants as change
use Rattle.kc_model.specs.State.{State, Frame, Image, frame_at, slot_at}
use Rattle.kc_model.specs.Lawful.{same_owner}
use Rattle.kc_model.specs.Refusals.{refusal}
use Rattle.kc_model.specs.Effects.{image_bytes, launch_digest}
use Rattle.kc_model.specs.Next.{next}

-- the custody of a frame, which is all of it but its bytes: who owns it, where its VM sees it, how often it is shared,
-- and whether the host reaches it
abbrev pub custody_of : Frame → Custody
custody_of frame = record { owner = frame.owner; gfn = frame.gfn; share = frame.share; present = frame.present }

abbrev pub custody_at : State → ℕ → Custody
custody_at m f = custody_of (frame_at m f)

abbrev pub same_gfn : Option ℕ → Option ℕ → Bool
same_gfn None None = true
same_gfn (Some g) (Some h) = g == h
same_gfn _ _ = false

abbrev pub same_flag : Bool → Bool → Bool
same_flag true b = b
same_flag false b = not b

abbrev pub same_custody : Custody → Custody → Bool
same_custody a b = same_owner a.owner b.owner && same_gfn a.gfn b.gfn && (a.share == b.share) && same_flag a.present b.present

-- whether the frame's custody differs between two states
abbrev pub has_moved : State → State → ℕ → Bool
has_moved old new f = not (same_custody (custody_at old f) (custody_at new f))

-- the change of the frame's custody between two states
abbrev pub frame_change : ℕ → State → State → ℕ → FrameChange
frame_change line old new f = record { line = line; frame = f; before = custody_at old f; after = custody_at new f }

-- the changes of frames by a call, in ascending order: those whose custody differs before and after it
abbrev pub frame_changes_by : ℕ → State → State → List FrameChange
frame_changes_by line old new = map (frame_change line old new) (filter (has_moved old new) (range_with_len 0 old.config.frames))

abbrev pub same_phase : Phase → Phase → Bool
same_phase Empty Empty = true
same_phase Booting Booting = true
same_phase Active Active = true
same_phase Dead Dead = true
same_phase _ _ = false

-- whether the slot's phase differs between two states
abbrev pub has_turned : State → State → ℕ → Bool
has_turned old new v = not (same_phase (slot_at old v).phase (slot_at new v).phase)

-- an image of a slot, with the digest of its bytes
abbrev pub measured_image : State → ℕ → Image → MeasuredImage
measured_image m v image = record { base = image.base; len = image.len; digest = sha256 (image_bytes m v image) }

abbrev pub measured_images : State → ℕ → List MeasuredImage
measured_images m v = map (measured_image m v) (slot_at m v).images

-- the launch measurement of a slot, if its version approves boots as a whole
abbrev pub launch_of : State → ℕ → Option (List ℕ)
launch_of m v = if measures_launch m.config.version then Some (launch_digest m v) else None

-- what is measured of a slot
abbrev pub measurement : State → ℕ → Measurement
measurement m v = record { images = measured_images m v; launch = launch_of m v }

abbrev pub nothing_measured : Measurement
nothing_measured = record { images = []; launch = None }

abbrev pub measurement_unless : Option Refusal → Measurement → Measurement
measurement_unless None measured = measured
measurement_unless (Some refused) measured = nothing_measured

-- what a call measures: the slot, if the call is a `verify` that is not refused, and otherwise nothing
abbrev pub measurement_by : State → Call → Measurement
measurement_by m (Verify v) = measurement_unless (refusal m (Verify v)) (measurement m v)
measurement_by m _ = nothing_measured

-- a slot is measured when it becomes active or dead
abbrev pub measurement_for : Phase → Measurement → Measurement
measurement_for Active measured = measured
measurement_for Dead measured = measured
measurement_for _ measured = nothing_measured

-- the slot's phase after a call, with what is measured of it before the call if the call measured it
abbrev pub phase_change : ℕ → State → State → ℕ → PhaseChange
phase_change line old new v = record { line = line; vm = v; phase = (slot_at new v).phase; measurement = measurement_for (slot_at new v).phase (measurement old v) }

-- the changes of slots by a call, in ascending order: those whose phase differs before and after it
abbrev pub phase_changes_by : ℕ → State → State → List PhaseChange
phase_changes_by line old new = map (phase_change line old new) (filter (has_turned old new) (range_with_len 0 (slot_count old.config)))

-- the changes by a call: first of frames, then of slots
abbrev pub changes_by : ℕ → State → State → List Change
changes_by line old new = map change.Frame (frame_changes_by line old new) ++ map change.Phase (phase_changes_by line old new)

-- the changes by calls, one after another; the first call is on line `n`
abbrev pub custody_from : ℕ → State → List Call → List Change
custody_from n m [] = []
custody_from n m (call ∷ calls) = changes_by n m (next m call).1 ++ custody_from (n + 1) (next m call).1 calls

-- the line of a trace's first call, since line 1 is its header
abbrev pub first_line : ℕ
first_line = 2

-- the changes of a trace
abbrev pub custody : State → List Call → List Change
custody m calls = custody_from first_line m calls
