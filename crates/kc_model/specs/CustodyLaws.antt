-- What the changes of a trace say about the calls between them.
use Rattle.std.specs.Prelude.{ℕ, ◌≡◌, ◌<◌, ◌≤◌, ◌+◌, ◌⊎◌, Bool, true, false, ◌&&◌, ◌==◌, List, [], ◌∷◌, length, All, Contains, Some}
use Rattle.std.specs.List.{list_any}
use Rattle.kc_types.specs.Configuration.{slot_count, measures_launch}
use Rattle.kc_types.specs.declared.call.Call.{Call}
use Rattle.kc_types.specs.declared.call.Call.TheVariants.{HostRead, HostWrite, Verify, GuestWrite}
use Rattle.kc_types.specs.declared.reply.Reply.{Reply}
use Rattle.kc_types.specs.declared.reply.Reply.TheVariants as reply
use Rattle.kc_types.specs.declared.owner.Owner.TheVariants.{Vm}
use Rattle.kc_types.specs.declared.slot.Phase.TheVariants.{Empty, Active}
use Rattle.kc_types.specs.declared.custody.FrameChange.{FrameChange}
use Rattle.kc_types.specs.declared.custody.PhaseChange.{PhaseChange}
use Rattle.kc_types.specs.declared.custody.Change.{Change}
use Rattle.kc_types.specs.declared.custody.Change.TheVariants as change
use Rattle.kc_model.specs.State.{State, frame_at, slot_at}
use Rattle.kc_model.specs.Footprints.{state_at, call_at, reply_at}
use Rattle.kc_model.specs.Safety.{IsActive}
use Rattle.kc_model.specs.Custody.{custody, custody_at, has_moved, has_turned, same_phase, measurement_for, measurement, first_line}

-- whether it is a change of the frame by the call on this line of the trace
abbrev pub is_of_frame : ℕ → ℕ → Change → Bool
is_of_frame n f (change.Frame told) = (told.line == n) && (told.frame == f)
is_of_frame n f (change.Phase told) = false

abbrev pub is_told : List Change → ℕ → ℕ → Bool
is_told changes n f = list_any (is_of_frame n f) changes

-- there is a change for a frame and a call exactly if the call changed the frame's custody
abbrev pub IsExact : State → List Call → Type 0
IsExact m calls = (k f : ℕ) → k < length calls → f < m.config.frames → is_told (custody m calls) (first_line + k) f ≡ has_moved (state_at m calls k) (state_at m calls (k + 1)) f

-- a stretch of calls of a trace, from place i up to but not including j
pub record IsStretch (calls : List Call) (i j : ℕ) : Type 0 where
  pub begins : i ≤ j
  pub ends : j ≤ length calls

-- no change of the frame is reported for a call of the stretch
abbrev pub HasNoChange : State → List Call → ℕ → ℕ → ℕ → Type 0
HasNoChange m calls i j f = (n : ℕ) → i ≤ n → n < j → is_told (custody m calls) (first_line + n) f ≡ false

-- through a stretch without a change of a frame, its custody stays as it was before it
abbrev pub StaysInCustody : State → List Call → Type 0
StaysInCustody m calls = (i j f : ℕ) → IsStretch calls i j → HasNoChange m calls i j f → (k : ℕ) → i ≤ k → k ≤ j → custody_at (state_at m calls k) f ≡ custody_at (state_at m calls i) f

-- the calls that write to a VM's memory for it: its virtual processors' writes, and the call that measures it and
-- zeroes what lies after its images
abbrev pub writes_for : ℕ → Call → Bool
writes_for v (GuestWrite w c g off bytes) = w == v
writes_for v (Verify w) = w == v
writes_for v _ = false

-- the host is not served at the frame
abbrev pub IsKeptFrom : ℕ → Call → Reply → Type 0
IsKeptFrom f (HostRead g off len) (reply.Data bytes) = g ≡ f → ⊥
IsKeptFrom f (HostWrite g off bytes) reply.Done = g ≡ f → ⊥
IsKeptFrom f _ _ = Unit {0}

-- what a call of such a stretch leaves of a VM's frame that is not shared
pub record StaysPrivate (m : State) (calls : List Call) (v f k : ℕ) : Type 0 where
  -- its bytes change only by writes for its VM
  pub bytes : writes_for v (call_at calls k) ≡ false → (frame_at (state_at m calls (k + 1)) f).bytes ≡ (frame_at (state_at m calls k) f).bytes
  -- and the host is served none of them
  pub unseen : IsKeptFrom f (call_at calls k) (reply_at m calls k)

-- if a frame is a VM's and not shared, its bytes stay the VM's own through a stretch without a change of it
abbrev pub KeepsPrivate : State → List Call → Type 0
KeepsPrivate m calls = (i j v f : ℕ) → IsStretch calls i j → HasNoChange m calls i j f
    → (custody_at (state_at m calls i) f).owner ≡ Vm v → (custody_at (state_at m calls i) f).share ≡ 0
    → (k : ℕ) → i ≤ k → k < j → StaysPrivate m calls v f k

-- the writes of a VM's virtual processors
abbrev pub is_write_of : ℕ → Call → Bool
is_write_of v (GuestWrite w c g off bytes) = w == v
is_write_of v _ = false

-- if the VM is active before the stretch, only its virtual processors' writes change the bytes
abbrev pub KeepsActive : State → List Call → Type 0
KeepsActive m calls = (i j v f : ℕ) → IsStretch calls i j → HasNoChange m calls i j f
    → (custody_at (state_at m calls i) f).owner ≡ Vm v → (custody_at (state_at m calls i) f).share ≡ 0 → IsActive (state_at m calls i) v
    → (k : ℕ) → i ≤ k → k < j → is_write_of v (call_at calls k) ≡ false → (frame_at (state_at m calls (k + 1)) f).bytes ≡ (frame_at (state_at m calls k) f).bytes

-- whether it is a change of the slot by the call on this line of the trace
abbrev pub is_of_slot : ℕ → ℕ → Change → Bool
is_of_slot n v (change.Frame told) = false
is_of_slot n v (change.Phase told) = (told.line == n) && (told.vm == v)

-- there is a change of a slot for a call exactly if the call changed the slot's phase
abbrev pub IsExactForSlots : State → List Call → Type 0
IsExactForSlots m calls = (k v : ℕ) → k < length calls → v < slot_count m.config → list_any (is_of_slot (first_line + k) v) (custody m calls) ≡ has_turned (state_at m calls k) (state_at m calls (k + 1)) v

-- whether it reports that the slot is empty after the call on this line
abbrev pub is_end_of : ℕ → ℕ → Change → Bool
is_end_of n v (change.Frame told) = false
is_end_of n v (change.Phase told) = (told.line == n) && ((told.vm == v) && same_phase told.phase Empty)

-- no call of the stretch is reported to have emptied the slot
abbrev pub HasNoEnd : State → List Call → ℕ → ℕ → ℕ → Type 0
HasNoEnd m calls i j v = (n : ℕ) → i ≤ n → n < j → list_any (is_end_of (first_line + n) v) (custody m calls) ≡ false

-- a slot that is active stays active until it is reported empty
abbrev pub StaysActive : State → List Call → Type 0
StaysActive m calls = (i j v : ℕ) → IsStretch calls i j → HasNoEnd m calls i j v → IsActive (state_at m calls i) v → IsActive (state_at m calls j) v

-- a change of a frame gives the frame's custody before and after the call on its line
pub record TellsFrame (m : State) (calls : List Call) (told : FrameChange) : Type 0 where
  pub before : (k : ℕ) → told.line ≡ first_line + k → custody_at (state_at m calls k) told.frame ≡ told.before
  pub after : (k : ℕ) → told.line ≡ first_line + k → custody_at (state_at m calls (k + 1)) told.frame ≡ told.after

abbrev pub IsFrameTold : State → List Call → Change → Type 0
IsFrameTold m calls (change.Frame told) = TellsFrame m calls told
IsFrameTold m calls (change.Phase told) = Unit {0}

-- each change of a frame does this
abbrev pub TellsFrames : State → List Call → Type 0
TellsFrames m calls = All (IsFrameTold m calls) (custody m calls)

-- a change of a slot gives its phase after the call on its line, and what was measured of it before the call; if the phase
-- is active, the configuration approves the digest of each image, or in version 3 the launch measurement
pub record TellsPhase (m : State) (calls : List Call) (told : PhaseChange) : Type 0 where
  pub phase : (k : ℕ) → told.line ≡ first_line + k → (slot_at (state_at m calls (k + 1)) told.vm).phase ≡ told.phase
  pub measurement : (k : ℕ) → told.line ≡ first_line + k → measurement_for told.phase (measurement (state_at m calls k) told.vm) ≡ told.measurement
  pub approved : measures_launch m.config.version ≡ false → told.phase ≡ Active → All (λ image. Contains m.config.approved image.digest) told.measurement.images
  pub launch : measures_launch m.config.version ≡ true → told.phase ≡ Active → (digest : List ℕ) × (told.measurement.launch ≡ Some digest) × Contains m.config.approved digest

abbrev pub IsPhaseTold : State → List Call → Change → Type 0
IsPhaseTold m calls (change.Frame told) = Unit {0}
IsPhaseTold m calls (change.Phase told) = TellsPhase m calls told

-- each change of a slot does this
abbrev pub TellsPhases : State → List Call → Type 0
TellsPhases m calls = All (IsPhaseTold m calls) (custody m calls)

-- a change is of a frame or slot that exists, by a call of the trace
abbrev pub IsWithin : State → List Call → Change → Type 0
IsWithin m calls (change.Frame told) = (first_line ≤ told.line) × (told.line < first_line + length calls) × (told.frame < m.config.frames)
IsWithin m calls (change.Phase told) = (first_line ≤ told.line) × (told.line < first_line + length calls) × (told.vm < slot_count m.config)

-- changes are in the order of their lines; on one line frames come before slots, and both are in ascending order
abbrev pub Precedes : Change → Change → Type 0
Precedes (change.Frame a) (change.Frame b) = (a.line < b.line) ⊎ ((a.line ≡ b.line) × (a.frame < b.frame))
Precedes (change.Frame a) (change.Phase b) = a.line ≤ b.line
Precedes (change.Phase a) (change.Frame b) = a.line < b.line
Precedes (change.Phase a) (change.Phase b) = (a.line < b.line) ⊎ ((a.line ≡ b.line) × (a.vm < b.vm))

-- each precedes all later ones
abbrev pub IsInOrder : List Change → Type 0
IsInOrder [] = Unit {0}
IsInOrder (told ∷ more) = All (Precedes told) more × IsInOrder more

-- the laws hold of every trace from a lawful state
pub record IsCustody (m : State) (calls : List Call) : Type 0 where
  pub exact : IsExact m calls
  pub stays : StaysInCustody m calls
  pub private : KeepsPrivate m calls
  pub active : KeepsActive m calls
  pub frames : TellsFrames m calls
  pub exact_for_slots : IsExactForSlots m calls
  pub stays_active : StaysActive m calls
  pub phases : TellsPhases m calls
  pub within : All (IsWithin m calls) (custody m calls)
  pub ordered : IsInOrder (custody m calls)
