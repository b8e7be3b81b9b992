-- The changes of one VM.
use Rattle.std.specs.Prelude.{ℕ, Bool, true, false, ◌||◌, ◌==◌, List, filter, Option, Some, None}
use Rattle.kc_types.specs.declared.custody.Change.{Change}
use Rattle.kc_types.specs.declared.custody.Change.TheVariants as change
use Rattle.kc_types.specs.declared.custody.Event.{Event}
use Rattle.kc_types.specs.declared.custody.Event.TheVariants as event
use Rattle.kc_model.specs.Lives.{is_owned_by}

-- a change of a slot is its VM's, and one of a frame is the VM's that owns it before or after it
abbrev pub is_for : ℕ → Change → Bool
is_for v (change.Frame told) = is_owned_by v told.before.owner || is_owned_by v told.after.owner
is_for v (change.Phase told) = told.vm == v

-- all changes, or those of one slot
abbrev pub selected : Option ℕ → List Change → List Change
selected None changes = changes
selected (Some v) changes = filter (is_for v) changes

-- an event that is a change, of one slot if one is named
abbrev pub is_selected : Option ℕ → Event → Bool
is_selected None (event.Change told) = true
is_selected (Some v) (event.Change told) = is_for v told
is_selected vm _ = false
