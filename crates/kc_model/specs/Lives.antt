-- Lives: what events say of each VM, from the call that registers it to the one that clears it.
use Rattle.std.specs.Prelude.{ℕ, ◌+◌, ◌-◌, Bool, true, false, not, ◌&&◌, ◌==◌, List, [], ◌∷◌, ◌++◌, filter, length, nat_lt, Option, Some, None, if◌then◌else◌}
use Rattle.std.specs.List.{filter_map}
use Rattle.kc_types.specs.declared.owner.Owner.{Owner}
use Rattle.kc_types.specs.declared.owner.Owner.TheVariants.{Vm}
use Rattle.kc_types.specs.declared.slot.Phase.{Phase}
use Rattle.kc_types.specs.declared.slot.Phase.TheVariants.{Empty, Booting, Active, Dead}
use Rattle.kc_types.specs.declared.custody.Measurement.{Measurement}
use Rattle.kc_types.specs.declared.custody.Change.TheVariants as change
use Rattle.kc_types.specs.declared.custody.Event.{Event}
use Rattle.kc_types.specs.declared.custody.Event.TheVariants as event
use Rattle.kc_types.specs.declared.custody.Sharing.{Sharing}
use Rattle.kc_types.specs.declared.custody.Life.{Life}
use Rattle.kc_model.specs.Resources.{is_in}
use Rattle.kc_model.specs.Custody.{same_phase, nothing_measured}

abbrev pub is_owned_by : ℕ → Owner → Bool
is_owned_by v (Vm w) = w == v
is_owned_by v _ = false

-- whether the slot is in this phase after the event, and was not before
abbrev pub is_turn : ℕ → Phase → Event → Bool
is_turn v phase (event.Change (change.Phase told)) = (told.vm == v) && same_phase told.phase phase
is_turn v phase _ = false

-- the events of a life after the one that registers the VM: up to the event that empties its slot, or to just before
-- its next registering
abbrev pub life_in : ℕ → List Event → List Event
life_in v [] = []
life_in v (told ∷ more) = if is_turn v Booting told then [] else if is_turn v Empty told then told ∷ [] else told ∷ life_in v more

-- the line of the first event after which the slot is in this phase
abbrev pub line_of_turn : ℕ → Phase → List Event → Option ℕ
line_of_turn v phase [] = None
line_of_turn v phase (event.Change (change.Phase told) ∷ more) = if (told.vm == v) && same_phase told.phase phase then Some told.line else line_of_turn v phase more
line_of_turn v phase (_ ∷ more) = line_of_turn v phase more

-- whether the event measures the slot, which is then active or dead
abbrev pub is_measuring : ℕ → Event → Bool
is_measuring v told = if is_turn v Active told then true else is_turn v Dead told

-- what the first event that measures the slot says was measured
abbrev pub measurement_told : ℕ → List Event → Measurement
measurement_told v [] = nothing_measured
measurement_told v (event.Change (change.Phase told) ∷ more) = if is_measuring v (event.Change (change.Phase told)) then told.measurement else measurement_told v more
measurement_told v (_ ∷ more) = measurement_told v more

-- whether the VM gains a frame by the event
abbrev pub is_gain : ℕ → Event → Bool
is_gain v (event.Change (change.Frame told)) = not (is_owned_by v told.before.owner) && is_owned_by v told.after.owner
is_gain v _ = false

-- whether the VM loses a frame by the event
abbrev pub is_loss : ℕ → Event → Bool
is_loss v (event.Change (change.Frame told)) = is_owned_by v told.before.owner && not (is_owned_by v told.after.owner)
is_loss v _ = false

abbrev pub frame_gained : ℕ → Event → Option ℕ
frame_gained v (event.Change (change.Frame told)) = if is_gain v (event.Change (change.Frame told)) then Some told.frame else None
frame_gained v _ = None

-- the frames that it gains, each as often as it gains it
abbrev pub frames_gained : ℕ → List Event → List ℕ
frames_gained v told = filter_map (frame_gained v) told

-- the number of different numbers in the list
abbrev pub count_different : List ℕ → ℕ
count_different [] = 0
count_different (x ∷ xs) = if is_in xs x then count_different xs else count_different xs + 1

-- the most frames that the VM has at once, beyond those that it has before these events
abbrev pub most_beyond : ℕ → List Event → ℕ
most_beyond v [] = 0
most_beyond v (told ∷ more) = if is_gain v told then most_beyond v more + 1 else if is_loss v told then most_beyond v more - 1 else most_beyond v more

abbrev pub is_read : ℕ → Event → Bool
is_read v (event.Read w) = w == v
is_read v _ = false

abbrev pub is_write : ℕ → Event → Bool
is_write v (event.Write w) = w == v
is_write v _ = false

-- the line of the first event after which the frame is not shared
abbrev pub end_of_sharing : ℕ → List Event → Option ℕ
end_of_sharing f [] = None
end_of_sharing f (event.Change (change.Frame told) ∷ more) = if (told.frame == f) && (told.after.share == 0) then Some told.line else end_of_sharing f more
end_of_sharing f (_ ∷ more) = end_of_sharing f more

-- the stretch that begins with this event, if after it the VM shares a frame that it did not share before; `more` are
-- the events after it
abbrev pub sharing_from : ℕ → Event → List Event → List Sharing
sharing_from v (event.Change (change.Frame told)) more =
    if is_owned_by v told.after.owner && ((told.before.share == 0) && nat_lt 0 told.after.share)
    then record { frame = told.frame; gfn = told.after.gfn; from = told.line; to = end_of_sharing told.frame more } ∷ []
    else []
sharing_from v _ more = []

-- the stretches of a life, in the order in which they begin
abbrev pub sharings : ℕ → List Event → List Sharing
sharings v [] = []
sharings v (told ∷ more) = if is_turn v Booting told then [] else if is_turn v Empty told then [] else sharing_from v told more ++ sharings v more

-- the life of the VM that was registered on this line, by the events after that
abbrev pub life_of : ℕ → ℕ → List Event → Life
life_of v line more = record {
  vm = v;
  registered = line;
  active = line_of_turn v Active (life_in v more);
  dead = line_of_turn v Dead (life_in v more);
  cleared = line_of_turn v Empty (life_in v more);
  measurement = measurement_told v (life_in v more);
  frames = count_different (frames_gained v (life_in v more));
  most = most_beyond v (life_in v more);
  left = length (filter (is_gain v) (life_in v more)) - length (filter (is_loss v) (life_in v more));
  returned = length (filter (is_loss v) (life_in v more));
  reads = length (filter (is_read v) (life_in v more));
  writes = length (filter (is_write v) (life_in v more));
  shared = sharings v more;
}

-- the life that an event begins
abbrev pub life_from : Event → List Event → List Life
life_from (event.Change (change.Phase told)) more = if same_phase told.phase Booting then life_of told.vm told.line more ∷ [] else []
life_from _ more = []

-- all lives, in the order in which they begin
abbrev pub lives : List Event → List Life
lives [] = []
lives (told ∷ more) = life_from told more ++ lives more

-- the lives of one slot, or of all
abbrev pub is_life_of : ℕ → Life → Bool
is_life_of v life = life.vm == v

abbrev pub selected_lives : Option ℕ → List Life → List Life
selected_lives None told = told
selected_lives (Some v) told = filter (is_life_of v) told
