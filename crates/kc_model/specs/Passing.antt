-- How a frame passes from owner to owner, and what calls that do not name a VM leave of it.
use Rattle.std.specs.Prelude.{ℕ, ◌≡◌, ◌≢◌, ◌+◌, ◌⊎◌, List, length, Some}
use Rattle.std.specs.List.{range_with_len, count_by, sum_by}
use Rattle.kc_types.specs.declared.call.Call.{Call}
use Rattle.kc_types.specs.declared.reply.Reply.{Reply}
use Rattle.kc_types.specs.declared.owner.Owner.{Owner}
use Rattle.kc_types.specs.declared.owner.Owner.TheVariants.{Core, Host, Free, Vm}
use Rattle.kc_types.specs.Slots.{slot_of}
use Rattle.kc_model.specs.State.{State, Frame, frame_at, slot_at, zero_page}
use Rattle.kc_model.specs.Lawful.{same_owner}
use Rattle.kc_model.specs.Safety.{EachStep}

-- the host takes a free frame, which is zero
abbrev pub IsTaken : Frame → Frame → Type 0
IsTaken old new = (old.owner ≡ Free) × (new.owner ≡ Host) × (new.bytes ≡ zero_page)

-- the host gives a frame back, zeroed
abbrev pub IsGiven : Frame → Frame → Type 0
IsGiven old new = (old.owner ≡ Host) × (new.owner ≡ Free) × (new.bytes ≡ zero_page)

-- a VM gets a frame of the host's, with the host's bytes
abbrev pub IsHanded : Frame → Frame → Type 0
IsHanded old new = (v : ℕ) × (old.owner ≡ Host) × (new.owner ≡ Vm v) × (new.bytes ≡ old.bytes)

-- a VM's frame becomes free, zeroed
abbrev pub IsFreed : Frame → Frame → Type 0
IsFreed old new = (v : ℕ) × (old.owner ≡ Vm v) × (new.owner ≡ Free) × (new.bytes ≡ zero_page)

-- a frame stays with its owner, or goes one of these four ways: so what leaves a VM is zero before anybody else has
-- it, what comes to the host is zero, and what comes to a VM was the host's
abbrev pub Passes : Frame → Frame → Type 0
Passes old new = (new.owner ≡ old.owner) ⊎ (IsTaken old new ⊎ (IsGiven old new ⊎ (IsHanded old new ⊎ IsFreed old new)))

abbrev pub PassesFrames : State → Call → Reply → State → Type 0
PassesFrames old call answer new = (f : ℕ) → Passes (frame_at old f) (frame_at new f)

-- all of the slot is as it was, and so is each of its frames that is not shared
pub record IsLeftAlone (old new : State) (v : ℕ) : Type 0 where
  pub slot : slot_at new v ≡ slot_at old v
  pub frames : (f : ℕ) → (frame_at old f).owner ≡ Vm v → (frame_at old f).share ≡ 0 → frame_at new f ≡ frame_at old f

-- a call that names another slot, or none, leaves a slot alone
abbrev pub LeavesAlone : State → Call → Reply → State → Type 0
LeavesAlone old call answer new = (v : ℕ) → (slot_of call ≢ Some v) → IsLeftAlone old new v

-- the number of the owner's frames
abbrev pub frames_of : Owner → State → ℕ
frames_of owner m = count_by (λ f. same_owner (frame_at m f).owner owner) (range_with_len 0 m.config.frames)

-- no frame is lost: the core's frames, the host's, those in the free list and those in the slots' lists are together
-- as many as the machine has
abbrev pub CountsAll : State → Call → Reply → State → Type 0
CountsAll old call answer new = frames_of Core new + frames_of Host new + length new.free + sum_by (λ slot. length slot.frames) new.slots ≡ new.config.frames

pub record IsPassedOn (m : State) (calls : List Call) : Type 0 where
  pub passes : EachStep PassesFrames m calls
  pub alone : EachStep LeavesAlone m calls
  pub counted : EachStep CountsAll m calls
