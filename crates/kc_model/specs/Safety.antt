-- What holds at each step of every trace.
use Rattle.std.specs.Prelude.{ℕ, ◌≡◌, ◌<◌, ◌⊎◌, ◌==◌, Bool, true, false, List, [], ◌∷◌}
use Rattle.kc_types.specs.declared.call.Call.{Call}
use Rattle.kc_types.specs.declared.call.Call.TheVariants.{HostRead, HostWrite, Verify, GuestWrite, Drop, Clear}
use Rattle.kc_types.specs.declared.reply.Reply.{Reply}
use Rattle.kc_types.specs.declared.reply.Reply.TheVariants as reply
use Rattle.kc_types.specs.declared.owner.Owner.TheVariants.{Host, Free, Vm}
use Rattle.kc_types.specs.declared.slot.Phase.TheVariants.{Active}
use Rattle.kc_model.specs.State.{State, Frame, frame_at, slot_at}
use Rattle.kc_model.specs.Effects.{is_boot_approved}
use Rattle.kc_model.specs.Next.{next, state_after}
use Rattle.kc_model.specs.Lawful.{ListsOnce}
use Rattle.kc_types.specs.Configuration.{slot_count}

-- a fact holds of each call of a trace: of the state before it, the call, its reply and the state after it
abbrev pub EachStep : (State → Call → Reply → State → Type 0) → State → List Call → Type 0
EachStep Step m [] = Unit {0}
EachStep Step m (call ∷ calls) = Step m call (next m call).0 (next m call).1 × EachStep Step (next m call).1 calls

-- each frame is in the list of its owner once, and in no other list
abbrev pub HasOneOwner : State → Type 0
HasOneOwner m = ListsOnce m Free m.free × ((v : ℕ) → v < slot_count m.config → ListsOnce m (Vm v) (slot_at m v).frames)

abbrev pub KeepsOneOwner : State → Call → Reply → State → Type 0
KeepsOneOwner old call answer new = HasOneOwner new

-- what the host may read and write
abbrev pub IsOpen : Frame → Type 0
IsOpen frame = (frame.owner ≡ Host) ⊎ (0 < frame.share)

-- the host is served only at an open frame
abbrev pub ServesOpenFrames : State → Call → Reply → State → Type 0
ServesOpenFrames old (HostRead f off len) (reply.Data bytes) new = IsOpen (frame_at old f)
ServesOpenFrames old (HostWrite f off bytes) reply.Done new = IsOpen (frame_at old f)
ServesOpenFrames old _ _ new = Unit {0}

-- the calls that may change a byte of a frame of the VM that is not shared
abbrev pub changes_bytes_of : ℕ → Call → Bool
changes_bytes_of v (GuestWrite w c g off bytes) = w == v
changes_bytes_of v (Verify w) = w == v
changes_bytes_of v (Drop w c g) = w == v
changes_bytes_of v (Clear w) = w == v
changes_bytes_of v _ = false

abbrev pub KeepsPrivateBytes : State → Call → Reply → State → Type 0
KeepsPrivateBytes old call answer new = (v f : ℕ) → (frame_at old f).owner ≡ Vm v → (frame_at old f).share ≡ 0 → changes_bytes_of v call ≡ false → (frame_at new f).bytes ≡ (frame_at old f).bytes

abbrev pub IsActive : State → ℕ → Type 0
IsActive m v = (slot_at m v).phase ≡ Active

-- the call is a `verify` of the slot that found its boot approved
abbrev pub Measures : ℕ → State → Call → Reply → Type 0
Measures v m (Verify w) reply.Done = (w ≡ v) × (is_boot_approved m v ≡ true)
Measures v m _ _ = ⊥

abbrev pub Clears : ℕ → Call → Reply → Type 0
Clears v (Clear w) reply.Done = w ≡ v
Clears v _ _ = ⊥

-- the slot is not cleared in the trace
abbrev pub NeverCleared : ℕ → State → Call → Reply → State → Type 0
NeverCleared v old call answer new = Clears v call answer → ⊥

-- some call measures the slot, and it is not cleared after it
abbrev pub IsMeasured : ℕ → State → List Call → Type 0
IsMeasured v m [] = ⊥
IsMeasured v m (call ∷ calls) = (Measures v m call (next m call).0 × EachStep (NeverCleared v) (next m call).1 calls) ⊎ IsMeasured v (next m call).1 calls

-- at each step a frame has one owner, the host is served only at open frames and private bytes stay; and a slot that
-- becomes active was measured
pub record IsSafe (m : State) (calls : List Call) : Type 0 where
  pub one_owner : EachStep KeepsOneOwner m calls
  pub host_access : EachStep ServesOpenFrames m calls
  pub measured : (v : ℕ) → (IsActive m v → ⊥) → IsActive (state_after m calls) v → IsMeasured v m calls
  pub integrity : EachStep KeepsPrivateBytes m calls
