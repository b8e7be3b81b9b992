-- Growing: what the events since a VM's registering say of its life, and how one event more changes that.
use Rattle.std.specs.Prelude.{ℕ, ◌≡◌, ◌+◌, ◌-◌, ◌<◌, ◌^◌, ◌==◌, ◌||◌, Bool, true, false, List, [], ◌∷◌, ◌++◌, length, filter, map, max, eqb, Option, None, Some, if◌then◌else◌}
use Rattle.std.specs.List.{list_any}
use Rattle.kc_types.specs.declared.slot.Phase.TheVariants.{Empty, Booting, Active, Dead}
use Rattle.kc_types.specs.declared.custody.Measurement.{Measurement}
use Rattle.kc_types.specs.declared.custody.FrameChange.{FrameChange}
use Rattle.kc_types.specs.declared.custody.Change.TheVariants as change
use Rattle.kc_types.specs.declared.custody.Event.{Event}
use Rattle.kc_types.specs.declared.custody.Event.TheVariants as event
use Rattle.kc_types.specs.declared.custody.Sharing.{Sharing}
use Rattle.kc_types.specs.declared.custody.Life.{Life}
use Rattle.kc_model.specs.Resources.{is_in}
use Rattle.kc_model.specs.Custody.{nothing_measured}
use Rattle.kc_model.specs.Lives.{is_turn, is_owned_by, life_in, line_of_turn, measurement_told, frames_gained, count_different, most_beyond, is_gain, is_loss, is_read, is_write, sharings}
use Rattle.kc_custody.specs.declared.open_life.Stretch.{Stretch}
use Rattle.kc_custody.specs.Endings.{FrameEndings, HasEndingOf, line_of_ending, NotesEvent, NumbersStretches}

-- what is said of a life: its lines and what was measured, how many different frames it gained and, while it is open, which, counts, and
-- the stretches begun
pub record Growing : Type 0 where
  pub vm : ℕ
  pub registered : ℕ
  pub active : Option ℕ
  pub dead : Option ℕ
  pub cleared : Option ℕ
  pub measurement : Measurement
  pub frames : ℕ
  pub members : List ℕ
  pub gained : ℕ
  pub lost : ℕ
  pub most : ℕ
  pub reads : ℕ
  pub writes : ℕ
  pub shared : List Stretch

-- the life of a VM that is registered, before any event
abbrev pub new_life : ℕ → ℕ → Growing
new_life v line = record { vm = v; registered = line; active = None; dead = None; cleared = None; measurement = nothing_measured; frames = 0; members = []; gained = 0; lost = 0; most = 0; reads = 0; writes = 0; shared = [] }

-- whether the number is among these
abbrev pub has_member : List ℕ → ℕ → Bool
has_member xs f = list_any (eqb f) xs

-- these and the number, each once
abbrev pub with_member : List ℕ → ℕ → List ℕ
with_member xs f = if has_member xs f then xs else xs ++ f ∷ []

-- what the first measuring found, if the slot was active from one line on, and dead from another
abbrev pub first_measurement : Option ℕ → Option ℕ → Measurement → Measurement → Measurement
first_measurement None None old new = new
first_measurement (Some line) dead old new = old
first_measurement None (Some line) old new = old

-- the VM gains a frame
abbrev pub gaining : ℕ → Growing → Growing
gaining f life = record life {
  frames = length (with_member life.members f);
  members = with_member life.members f;
  gained = life.gained + 1;
  most = max life.most (life.gained + 1 - life.lost);
}

-- it loses one
abbrev pub losing : Growing → Growing
losing life = record life { lost = life.lost + 1 }

-- a frame is the VM's before an event, or after it
abbrev pub owning : Bool → Bool → ℕ → Growing → Growing
owning false true f life = gaining f life
owning true false f life = losing life
owning _ _ f life = life

-- the stretch that begins with the change of a frame, and has this ending
abbrev pub stretch_from : FrameChange → ℕ → Stretch
stretch_from told ending = record { frame = told.frame; gfn = told.after.gfn; from = told.line; ending = ending }

-- one stretch more, if the VM has the frame and its sharing begins
abbrev pub sharing : Bool → Bool → Stretch → Growing → Growing
sharing true true begun life = record life { shared = life.shared ++ begun ∷ [] }
sharing true false begun life = life
sharing false begins begun life = life

-- one frame more can be counted
abbrev pub HasRoomFor : Growing → Type 0
HasRoomFor life = (life.gained + 1 < 2 ^ 64) × (life.lost + 1 < 2 ^ 64)

-- the stretch with the line at which it ends
abbrev pub sharing_of : List FrameEndings → Stretch → Sharing
sharing_of endings begun = record { frame = begun.frame; gfn = begun.gfn; from = begun.from; to = line_of_ending endings begun.frame begun.ending }

-- the life that is reported, with the lines at which its stretches end
abbrev pub finished : List FrameEndings → Growing → Life
finished endings life = record {
  vm = life.vm;
  registered = life.registered;
  active = life.active;
  dead = life.dead;
  cleared = life.cleared;
  measurement = life.measurement;
  frames = life.frames;
  most = life.most;
  left = life.gained - life.lost;
  returned = life.lost;
  reads = life.reads;
  writes = life.writes;
  shared = map (sharing_of endings) life.shared;
}

-- whether no event ends the slot's life
abbrev pub is_open : ℕ → List Event → Bool
is_open v [] = true
is_open v (told ∷ more) = if is_turn v Booting told then false else if is_turn v Empty told then false else is_open v more

-- a VM that was registered, on this line, and the events after that
pub record Start : Type 0 where
  pub vm : ℕ
  pub line : ℕ
  pub more : List Event

-- the life of this start is open after these events
abbrev pub is_open_since : Start → Bool
is_open_since start = is_open start.vm start.more

-- the events of the life so far
abbrev pub life_since : Start → List Event
life_since start = life_in start.vm start.more

-- the start with one event more after it
abbrev pub with_event : Event → Start → Start
with_event told start = record start { more = start.more ++ told ∷ [] }

-- what these events say of the life, but for frames and stretches
unfoldable pub counted : ℕ → ℕ → List Event → Growing
counted v line life = record {
  vm = v;
  registered = line;
  active = line_of_turn v Active life;
  dead = line_of_turn v Dead life;
  cleared = line_of_turn v Empty life;
  measurement = measurement_told v life;
  frames = 0;
  members = [];
  gained = length (filter (is_gain v) life);
  lost = length (filter (is_loss v) life);
  most = most_beyond v life;
  reads = length (filter (is_read v) life);
  writes = length (filter (is_write v) life);
  shared = [];
}

-- the members are these numbers, each once
pub record AreMembers (numbers members : List ℕ) : Type 0 where
  pub count : length members ≡ count_different numbers
  pub same : (f : ℕ) → has_member members f ≡ is_in numbers f

-- the endings of these stretches are among them
abbrev pub HaveEndings : List FrameEndings → List Stretch → Type 0
HaveEndings endings [] = Unit {0}
HaveEndings endings (stretch ∷ more) = HasEndingOf endings stretch.frame stretch.ending × HaveEndings endings more

-- a growing life is what the events since its start say
pub record IsGrowing (endings : List FrameEndings) (start : Start) (life : Growing) : Type 0 where
  pub counts : life ≡ record (counted start.vm start.line (life_since start)) { frames = life.frames; members = life.members; shared = life.shared }
  pub frames : life.frames ≡ count_different (frames_gained start.vm (life_since start))
  pub members : is_open_since start ≡ true → AreMembers (frames_gained start.vm (life_since start)) life.members
  pub shared : map (sharing_of endings) life.shared ≡ sharings start.vm start.more
  pub begun : HaveEndings endings life.shared

-- some events can be counted, and one more after them
abbrev pub HasRoom : List Event → Type 0
HasRoom told = length told + 1 < 2 ^ 64

-- whether the event is one of the slot, or of a frame of its VM
abbrev pub concerns : ℕ → Event → Bool
concerns v (event.Change (change.Frame told)) = is_owned_by v told.before.owner || is_owned_by v told.after.owner
concerns v (event.Change (change.Phase told)) = told.vm == v
concerns v (event.Read w) = w == v
concerns v (event.Write w) = w == v

-- the endings take the event in, and this is the number of the one of a stretch that begins with it
pub record EndsBy (told : Event) (ending : ℕ) (old new : List FrameEndings) : Type 0 where
  pub noted : NotesEvent told old new
  pub numbered : (changed : FrameChange) → told ≡ event.Change (change.Frame changed) → NumbersStretches changed new ending

-- an event of one slot is of this slot
abbrev pub IsOf : ℕ → Event → Type 0
IsOf v (event.Change (change.Frame told)) = Unit {0}
IsOf v (event.Change (change.Phase told)) = told.vm ≡ v
IsOf v (event.Read w) = w ≡ v
IsOf v (event.Write w) = w ≡ v

-- an open life takes an event of its slot in
abbrev pub TakesIn : Event → ℕ → Growing → Growing → Type 0
TakesIn told ending old new = (start : Start) (before after : List FrameEndings) → HasRoom start.more → EndsBy told ending before after → is_open_since start ≡ true
    → IsOf start.vm told → IsGrowing before start old → IsGrowing after (with_event told start) new
