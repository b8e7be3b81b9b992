-- Events that name frames and slots that there are.
use Rattle.std.specs.Prelude.{ℕ, ◌<◌}
use Rattle.kc_types.specs.Limits.{slot_limit}
use Rattle.kc_types.specs.declared.custody.Change.TheVariants as change
use Rattle.kc_types.specs.declared.custody.Event.{Event}
use Rattle.kc_types.specs.declared.custody.Event.TheVariants as event

-- a change of a frame is of one of this many, and a change of a slot is of one whose number is in range
abbrev pub IsWithin : ℕ → Event → Type 0
IsWithin frames (event.Change (change.Frame told)) = told.frame < frames
IsWithin frames (event.Change (change.Phase told)) = told.vm < slot_limit
IsWithin frames _ = Unit {0}
