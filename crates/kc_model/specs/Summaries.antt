-- Summaries: what the states of a trace and its replies say of each life of a VM. Place k of a trace is after its
-- first k calls.
use Rattle.std.specs.Prelude.{ℕ, ◌+◌, ◌-◌, ◌≡◌, ◌≢◌, ◌⊎◌, ◌≤◌, ◌<◌, Bool, false, not, ◌&&◌, ◌==◌, nat_lt, if◌then◌else◌, List, [], ◌++◌, length, map, filter, All, Option, Some, None, is_some}
use Rattle.std.specs.List.{list_any, range_with_len, count_by, sum_by, flat_map, find}
use Rattle.std.specs.Option.{option_map, option_or}
use Rattle.kc_types.specs.declared.call.Call.{Call}
use Rattle.kc_types.specs.declared.call.Call.TheVariants.{HostRead, HostWrite, RegisterVm}
use Rattle.kc_types.specs.declared.reply.Reply.{Reply}
use Rattle.kc_types.specs.declared.reply.Reply.TheVariants as reply
use Rattle.kc_types.specs.declared.slot.Phase.{Phase}
use Rattle.kc_types.specs.declared.slot.Phase.TheVariants.{Empty, Active, Dead}
use Rattle.kc_types.specs.declared.custody.Life.{Life}
use Rattle.kc_types.specs.declared.custody.Measurement.{Measurement}
use Rattle.kc_types.specs.declared.custody.Sharing.{Sharing}
use Rattle.kc_model.specs.State.{State, frame_at, slot_at}
use Rattle.kc_model.specs.Footprints.{state_at, call_at, reply_at}
use Rattle.kc_model.specs.Custody.{first_line, measurement, nothing_measured}
use Rattle.kc_model.specs.CustodyLaws.{IsStretch}
use Rattle.kc_model.specs.Events.{events}
use Rattle.kc_model.specs.Lives.{is_owned_by, lives}
use Rattle.kc_model.specs.Before.{header_line, is_taken, slots_that, lives_from}

-- the place after the call on a line; after line 1, the header, no call has been made
abbrev pub place_after : ℕ → ℕ
place_after line = line - 1

-- the place of a life's last state: after the call that clears its VM, or at the trace's end
abbrev pub last_place : List Call → Option ℕ → ℕ
last_place calls None = length calls
last_place calls (Some line) = place_after line

-- the slot's phase at a place
abbrev pub phase_at : State → List Call → ℕ → ℕ → Phase
phase_at m calls v k = (slot_at (state_at m calls k) v).phase

-- the number of frames in its list at a place
abbrev pub listed_at : State → List Call → ℕ → ℕ → ℕ
listed_at m calls v k = length (slot_at (state_at m calls k) v).frames

-- whether its VM owns the frame at a place
abbrev pub owns_at : State → List Call → ℕ → ℕ → ℕ → Bool
owns_at m calls v f k = is_owned_by v (frame_at (state_at m calls k) f).owner

-- the slot that a call registers, if it registers one
abbrev pub registered_by : Call → Reply → Option ℕ
registered_by (RegisterVm v) reply.Done = Some v
registered_by _ _ = None

-- the call is a read by the host that is served at a frame of the VM
abbrev pub reads_from : ℕ → State → Call → Reply → Bool
reads_from v m (HostRead f off len) (reply.Data bytes) = is_owned_by v (frame_at m f).owner
reads_from v m _ _ = false

-- the call is a write by the host that is served there
abbrev pub writes_to : ℕ → State → Call → Reply → Bool
writes_to v m (HostWrite f off bytes) reply.Done = is_owned_by v (frame_at m f).owner
writes_to v m _ _ = false

-- the number of calls from place i to j that pass a test
abbrev pub calls_that : (State → Call → Reply → Bool) → State → List Call → ℕ → ℕ → ℕ
calls_that test m calls i j = count_by (λ k. test (state_at m calls k) (call_at calls k) (reply_at m calls k)) (range_with_len i (j - i))

-- the number of frames that pass a test
abbrev pub frames_that : (ℕ → Bool) → State → ℕ
frames_that test m = count_by test (range_with_len 0 m.config.frames)

-- what the call on this line measures of the slot
abbrev pub measured_on : State → List Call → ℕ → Option ℕ → Measurement
measured_on m calls v None = nothing_measured
measured_on m calls v (Some line) = measurement (state_at m calls (line - first_line)) v

-- what either of two calls measures, if not both measure something
abbrev pub either_measured : Measurement → Measurement → Measurement
either_measured one two = record { images = one.images ++ two.images; launch = option_or one.launch two.launch }

-- the number of grants of a frame at a place
abbrev pub grants_at : State → List Call → ℕ → ℕ → ℕ
grants_at m calls f k = (frame_at (state_at m calls k) f).share

-- the call at a place begins to share the frame, which is the VM's
abbrev pub shares_first : State → List Call → ℕ → ℕ → ℕ → Bool
shares_first m calls v k f = owns_at m calls v f (k + 1) && ((grants_at m calls f k == 0) && nat_lt 0 (grants_at m calls f (k + 1)))

-- the first of the calls from a place on after which the frame is not shared
abbrev pub unshared_by : State → List Call → ℕ → ℕ → Option ℕ
unshared_by m calls f i = find (λ k. grants_at m calls f (k + 1) == 0) (range_with_len i (length calls - i))

-- the sharing that the call at this place begins, which ends on the line of the next call after which the frame is not
-- shared
abbrev pub sharing_at : State → List Call → ℕ → ℕ → Sharing
sharing_at m calls k f = record {
  frame = f;
  gfn = (frame_at (state_at m calls (k + 1)) f).gfn;
  from = first_line + k;
  to = option_map (λ n. first_line + n) (unshared_by m calls f (k + 1));
}

-- from place i to j the slot is first in this phase after the call on this line, or never if there is no line
abbrev pub IsFirstIn : State → List Call → ℕ → Phase → ℕ → ℕ → Option ℕ → Type 0
IsFirstIn m calls v phase i j None = (k : ℕ) → i ≤ k → k ≤ j → phase_at m calls v k ≢ phase
IsFirstIn m calls v phase i j (Some line) =
    (i < line) × (place_after line ≤ j) × (phase_at m calls v (place_after line) ≡ phase)
    × ((k : ℕ) → i ≤ k → k < place_after line → phase_at m calls v k ≢ phase)

-- no state from place i to j has more frames in the slot's list, and one has exactly this many
pub record IsMost (m : State) (calls : List Call) (v i j most : ℕ) : Type 0 where
  pub no_more : (k : ℕ) → i ≤ k → k ≤ j → listed_at m calls v k ≤ most
  pub as_many : (k : ℕ) × (i ≤ k) × (k ≤ j) × (listed_at m calls v k ≡ most)

-- what states and replies say of a life, from the first of its places to its last
pub record IsLived (m : State) (calls : List Call) (life : Life) (first last : ℕ) : Type 0 where
  pub stretch : IsStretch calls first last
  -- the slot becomes active, dead and empty by the calls on these lines, and not before; on the header's line, it is so before the first call
  pub active : IsFirstIn m calls life.vm Active first last life.active
  pub dead : IsFirstIn m calls life.vm Dead first last life.dead
  pub cleared : IsFirstIn m calls life.vm Empty first (length calls) life.cleared
  -- it is measured at most once
  pub once : (life.active ≡ None) ⊎ (life.dead ≡ None)
  -- `frames` counts all frames that the VM owns at any of its places
  pub frames : life.frames ≡ frames_that (λ f. list_any (owns_at m calls life.vm f) (range_with_len first (last + 1 - first))) m
  pub most : IsMost m calls life.vm first last life.most
  pub left : life.left ≡ listed_at m calls life.vm last
  -- `returned` counts, call by call, the frames that it owns before and not after it
  pub returned : life.returned ≡ sum_by (λ k. frames_that (λ f. owns_at m calls life.vm f k && not (owns_at m calls life.vm f (k + 1))) m) (range_with_len first (last - first))
  pub reads : life.reads ≡ calls_that (reads_from life.vm) m calls first last
  pub writes : life.writes ≡ calls_that (writes_to life.vm) m calls first last

-- the sharings that the calls of a life begin, call by call, by frames in ascending order
abbrev pub sharings_begun : State → List Call → ℕ → ℕ → ℕ → List Sharing
sharings_begun m calls v first last = flat_map (λ k. map (sharing_at m calls k) (filter (shares_first m calls v k) (range_with_len 0 m.config.frames))) (range_with_len first (last - first))

-- the life of a VM that a call registers
pub record IsSummary (m : State) (calls : List Call) (life : Life) (first last : ℕ) : Type 0 where
  pub lived : IsLived m calls life first last
  -- the call on its first line registers the slot
  pub within : first_line ≤ life.registered
  pub registered : registered_by (call_at calls (life.registered - first_line)) (reply_at m calls (life.registered - first_line)) ≡ Some life.vm
  -- its measurement is that of the call that made it active or dead
  pub measurement : life.measurement ≡ either_measured (measured_on m calls life.vm life.active) (measured_on m calls life.vm life.dead)
  pub shared : life.shared ≡ sharings_begun m calls life.vm first last

-- what a call on this line measures: nothing on the header's line
abbrev pub measured_since : State → List Call → ℕ → Option ℕ → Measurement
measured_since m calls v None = nothing_measured
measured_since m calls v (Some line) = if line == header_line then nothing_measured else measured_on m calls v (Some line)

-- a frame of the VM is shared before the first call
abbrev pub is_shared_before : State → ℕ → ℕ → Bool
is_shared_before m v f = is_owned_by v (frame_at m f).owner && nat_lt 0 (frame_at m f).share

-- the sharing of a frame that is shared before the first call
abbrev pub sharing_before : State → List Call → ℕ → Sharing
sharing_before m calls f = record {
  frame = f;
  gfn = (frame_at m f).gfn;
  from = header_line;
  to = option_map (λ n. first_line + n) (unshared_by m calls f 0);
}

-- the life of a VM that is there before the first call
pub record IsUnderWay (m : State) (calls : List Call) (life : Life) (last : ℕ) : Type 0 where
  pub lived : IsLived m calls life 0 last
  pub registered : life.registered ≡ header_line
  -- its measurement is that of a call
  pub measurement : life.measurement ≡ either_measured (measured_since m calls life.vm life.active) (measured_since m calls life.vm life.dead)
  -- `shared` has first the sharings that are under way
  pub shared : life.shared ≡ map (sharing_before m calls) (filter (is_shared_before m life.vm) (range_with_len 0 m.config.frames)) ++ sharings_begun m calls life.vm 0 last

pub record AreSummaries (m : State) (calls : List Call) : Type 0 where
  -- each life that the events of a trace give is so
  pub each : All (λ life. IsSummary m calls life (place_after life.registered) (last_place calls life.cleared)) (lives (events m calls))
  -- there is a life for each call that registers a slot, in their order
  pub all : map (λ life. life.registered) (lives (events m calls)) ≡ map (λ k. first_line + k) (filter (λ k. is_some (registered_by (call_at calls k) (reply_at m calls k))) (range_with_len 0 (length calls)))
  -- before them come those that are under way in the state, one for each VM, in the order of their slots
  pub before : (told : List Life) × (lives_from m (events m calls) ≡ told ++ lives (events m calls)) × (map (λ life. life.vm) told ≡ slots_that is_taken m) × All (λ life. IsUnderWay m calls life (last_place calls life.cleared)) told
