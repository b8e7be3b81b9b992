-- The calls of one wave over a store: each on its own parts.
use Rattle.std.specs.Prelude.{ℕ, zero, suc, ◌≡◌, ◌≢◌, ◌<◌, true, cond, List, [], ◌∷◌, length, map, slice_index_or, Some, None}
use Rattle.std.specs.List.{list_any, range_with_len}
use Rattle.kc_types.specs.Configuration.{Configuration, slot_count}
use Rattle.kc_types.specs.declared.call.Call.{Call}
use Rattle.kc_types.specs.declared.resource.Resource.TheVariants as resource
use Rattle.kc_model.specs.State.{State, zero_page}
use Rattle.kc_model.specs.Resources.{Resource, Resources, IsWithin, need}
use Rattle.kc_model.specs.Linked.{linked_part_of}
use Rattle.kc_types.specs.declared.reply.Reply.{Reply}
use Rattle.kc_types.specs.declared.reply.Reply.TheVariants.{Done}
use Rattle.kc_model.specs.Lawful.{IsLawful}
use Rattle.kc_model.specs.Footprints.{call_at, state_at, reply_at}
use Rattle.kc_footprints.specs.Spans.{Footprints, footprint_has, footprint_at}
use Rattle.kc_vms.specs.Vm.{VmSlot, capacity_of}
use Rattle.kc_page.specs.declared.page.Page.{Page}
use Rattle.kc_parts.specs.Parts.{Held, HasPlace, page_at, vm_at}
use Rattle.kc_parts.specs.States.{HasRoom}
use Rattle.kc_parts.specs.Restricted.{seen_at, exists_in, IsRestricted}
use Rattle.kc_replay.specs.declared.crew.WaveCalls.{WaveCalls}
use Rattle.kc_replay.specs.declared.task.Task.{Task}
use Rattle.kc_replay.specs.declared.task.Finished.{Finished}

-- each call of a wave has a footprint that holds what it needs, and no two footprints share a resource
pub record AreApart (m : State) (calls : List Call) (footprints : ℕ → Resources) : Type 0 where
  pub needs : (k : ℕ) → k < length calls → IsWithin (need m (call_at calls k)) (footprints k)
  pub exist : (k : ℕ) → k < length calls → IsWithin (footprints k) (exists_in m.config)
  -- a footprint has no list except those that its call needs
  pub slots : (k v : ℕ) → k < length calls → footprints k (resource.Vm v) ≡ true → need m (call_at calls k) (resource.Vm v) ≡ true
  pub free : (k : ℕ) → k < length calls → footprints k resource.Free ≡ true → need m (call_at calls k) resource.Free ≡ true
  pub apart : (j k : ℕ) (r : Resource) → j < length calls → k < length calls → j ≢ k → footprints j r ≡ true → footprints k r ≡ true → ⊥

-- one of the calls may touch the resource
abbrev pub out : (ℕ → Resources) → List ℕ → Resources
out footprints ks r = list_any (λ k. footprints k r) ks

-- the store lacks what the calls may touch, and has everything else of the state, and memory if it is reserved
pub record IsRest (m : State) (footprints : ℕ → Resources) (ks : List ℕ) (h : Held) : Type 0 where
  pub parts : (r : Resource) → seen_at h r ≡ cond (out footprints ks r) None (cond (exists_in m.config r) (Some (linked_part_of m r)) None)
  pub capacities : (v : ℕ) (vm : VmSlot) → vm_at h v ≡ Some vm → vm.capacity ≡ capacity_of m.config
  pub room : HasRoom h

-- the store has a place for everything in the configuration
pub record HasPlaces (config : Configuration) (h : Held) : Type 0 where
  pub numbers : h.numbers ≡ range_with_len 0 config.frames
  pub slots : (v : ℕ) → v < slot_count config → HasPlace h.vms.numbers v

-- a wave: the state that it starts from, the calls of the trace, what each may touch, and which of them are the wave's
pub record Wave : Type 0 where
  pub start : State
  pub calls : List Call
  pub footprints : ℕ → Resources
  pub members : List ℕ

-- the calls of the wave
abbrev pub wave_calls : List Call → List ℕ → List Call
wave_calls calls members = map (λ k. call_at calls k) members

-- the footprint of each call of a trace
abbrev pub footprint_of : Footprints → ℕ → Resources
footprint_of footprints k r = footprint_has footprints.sets (footprint_at footprints k) r

-- the wave that starts in a state
abbrev pub wave_from : State → WaveCalls → Wave
wave_from m given = record { start = m; calls = given.calls.now; footprints = footprint_of given.footprints.now; members = given.members.now }

-- the footprint of the wave's i-th call
abbrev pub footprints_at : (ℕ → Resources) → List ℕ → ℕ → Resources
footprints_at footprints members i = footprints (slice_index_or members i 0)

-- what is known of a wave that starts in a state
pub record IsWave (m : State) (calls : List Call) (footprints : ℕ → Resources) (members : List ℕ) : Type 0 where
  pub lawful : IsLawful m
  pub within : (i : ℕ) → i < length members → slice_index_or members i 0 < length calls
  pub apart : AreApart m (wave_calls calls members) (footprints_at footprints members)
  -- no call is in the wave twice
  pub once : (i j : ℕ) → i < length members → j < length members → i ≢ j → slice_index_or members i 0 ≢ slice_index_or members j 0

-- the first numbers in descending order
abbrev pub down_from : ℕ → List ℕ
down_from zero = []
down_from (suc i) = i ∷ down_from i

pub record IsTaskAt (m : State) (calls : List Call) (footprints : ℕ → Resources) (members : List ℕ) (i : ℕ) (task : Task) : Type 0 where
  pub within : i < length members
  pub number : task.number ≡ slice_index_or members i 0
  pub parts : IsRestricted (state_at m (wave_calls calls members) i) (footprints_at footprints members i) task.parts

pub record IsFinishedAt (m : State) (calls : List Call) (footprints : ℕ → Resources) (members : List ℕ) (i : ℕ) (done : Finished) : Type 0 where
  pub number : done.left.number ≡ slice_index_or members i 0
  pub reply : done.reply ≡ reply_at m (wave_calls calls members) i
  pub parts : IsRestricted (state_at m (wave_calls calls members) (suc i)) (footprints_at footprints members i) done.left.parts

-- the wave's calls have their replies, and all others are as before
pub record AreReplied (m : State) (calls : List Call) (members : List ℕ) (old new : List Reply) : Type 0 where
  pub given : (i : ℕ) → i < length members → slice_index_or new (slice_index_or members i 0) Done ≡ reply_at m (wave_calls calls members) i
  pub kept : (k : ℕ) → ((i : ℕ) → i < length members → slice_index_or members i 0 ≢ k) → slice_index_or new k Done ≡ slice_index_or old k Done
  pub size : length new ≡ length old

-- no page that is here has bytes other than zero
abbrev pub HasNoBytes : Held → Type 0
HasNoBytes h = (f : ℕ) (page : Page) → page_at h f ≡ Some page → page.bytes.bytes ≡ zero_page

-- what is left of a core that failed and was wiped: it has the places of the configuration, and all its bytes are zero
pub record IsWiped (config : Configuration) (left : Held) : Type 0 where
  pub places : HasPlaces config left
  pub bytes : HasNoBytes left
