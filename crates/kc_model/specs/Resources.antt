-- What a call may touch: the resources of a state, and a state made of some resources of one state and the others of
-- another.
use Rattle.std.specs.Prelude.{ℕ, suc, ◌≡◌, Bool, true, false, cond, ◌&&◌, ◌||◌, ◌==◌, nat_lt, List, [], ◌∷◌, drop, slice_index_or, Option, Some, None}
use Rattle.std.specs.List.{list_any}
use Rattle.kc_types.specs.Slots.{slot_of}
use Rattle.kc_types.specs.declared.call.Call.{Call}
use Rattle.kc_types.specs.declared.call.Call.TheVariants.{Take, Give, HostFault, HostRead, HostWrite, Remap, Map, Drop, Clear}
use Rattle.kc_types.specs.Configuration.{Configuration, slot_count}
use Rattle.kc_types.specs.declared.owner.Owner.{Owner}
use Rattle.kc_types.specs.declared.owner.Owner.TheVariants.{Core, Host, Free, Vm}
pub use Rattle.kc_types.specs.declared.resource.Resource.{Resource}
use Rattle.kc_model.specs.State.{State, Frame, Slot, frame_at, slot_at, untouched, no_slot}
use Rattle.kc_types.specs.declared.resource.Resource.TheVariants as resource

-- the two resources are the same
abbrev pub same_resource : Resource → Resource → Bool
same_resource (resource.Frame f) (resource.Frame g) = f == g
same_resource (resource.Frame f) (resource.Vm w) = false
same_resource (resource.Frame f) resource.Free = false
same_resource (resource.Vm v) (resource.Frame g) = false
same_resource (resource.Vm v) (resource.Vm w) = v == w
same_resource (resource.Vm v) resource.Free = false
same_resource resource.Free (resource.Frame g) = false
same_resource resource.Free (resource.Vm w) = false
same_resource resource.Free resource.Free = true

-- the resource is in the list
abbrev pub is_wanted : List Resource → Resource → Bool
is_wanted wanted r = list_any (same_resource r) wanted

-- a set of resources
abbrev pub Resources : Type 0
Resources = Resource → Bool

abbrev pub IsWithin : Resources → Resources → Type 0
IsWithin inner outer = (r : Resource) → inner r ≡ true → outer r ≡ true

-- the elements of the first list at the places for which the test holds, and of the second list elsewhere
abbrev pub pick : {X : Type 0} → (ℕ → Bool) → X → List X → List X → List X
pick test default [] ys = []
pick test default (x ∷ xs) ys = cond (test 0) x (slice_index_or ys 0 default) ∷ pick (λ i. test (suc i)) default xs (drop 1 ys)

-- the state made of the first state's resources and the second's for the rest
abbrev pub merged : Resources → State → State → State
merged here m rest = record {
  config = m.config;
  frames = pick (λ f. here (resource.Frame f)) (untouched Core) m.frames rest.frames;
  free = cond (here resource.Free) m.free rest.free;
  slots = pick (λ v. here (resource.Vm v)) no_slot m.slots rest.slots;
}

-- what a resource has in a state
pub data Part : Type 0 where
  frame_part : Frame → Part
  slot_part : Slot → Part
  free_part : List ℕ → Part

abbrev pub part_of : State → Resource → Part
part_of m (resource.Frame f) = frame_part (frame_at m f)
part_of m (resource.Vm v) = slot_part (slot_at m v)
part_of m resource.Free = free_part m.free

abbrev pub is_in : List ℕ → ℕ → Bool
is_in [] f = false
is_in (x ∷ xs) f = x == f || is_in xs f

-- the frame that the call names
abbrev pub names_frame : Call → ℕ → Bool
names_frame (Give f) g = f == g
names_frame (HostFault f) g = f == g
names_frame (HostRead f off len) g = f == g
names_frame (HostWrite f off bytes) g = f == g
names_frame (Remap v i f) g = f == g
names_frame (Map v c f) g = f == g
names_frame _ g = false

abbrev pub uses_free : Call → Bool
uses_free Take = true
uses_free (Give f) = true
uses_free (Drop v c g) = true
uses_free (Clear v) = true
uses_free _ = false

abbrev pub exists_slot : Configuration → Option ℕ → ℕ → Bool
exists_slot config None w = false
exists_slot config (Some v) w = nat_lt v (slot_count config) && v == w

-- whether the VM in the slot holds the frame
abbrev pub of_slot : Configuration → (Owner → ℕ → Bool) → Option ℕ → ℕ → Bool
of_slot config held None f = false
of_slot config held (Some v) f = nat_lt v (slot_count config) && held (Vm v) f

-- what a call touches, where `held` says which frames an owner may have
abbrev pub touched : Configuration → (Owner → ℕ → Bool) → Call → Resources
touched config held call (resource.Frame f) = (names_frame call f && nat_lt f config.frames) || of_slot config held (slot_of call) f || (uses_free call && held Free f)
touched config held call (resource.Vm v) = exists_slot config (slot_of call) v
touched config held call resource.Free = uses_free call

-- the frames in the list of the owner
abbrev pub listed_in : State → Owner → ℕ → Bool
listed_in m Core f = false
listed_in m Host f = false
listed_in m Free f = is_in m.free f
listed_in m (Vm v) f = is_in (slot_at m v).frames f

-- what the call may read or change in the state
abbrev pub need : State → Call → Resources
need m call = touched m.config (listed_in m) call
