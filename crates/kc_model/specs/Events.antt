-- Events: the changes of custody, and the host's reads and writes that were served at frames of VMs.
use Rattle.std.specs.Prelude.{ℕ, ◌+◌, List, [], ◌∷◌, ◌++◌, map, Option, Some, None}
use Rattle.std.specs.List.{filter_map}
use Rattle.kc_types.specs.declared.call.Call.{Call}
use Rattle.kc_types.specs.declared.call.Call.TheVariants.{HostRead, HostWrite}
use Rattle.kc_types.specs.declared.reply.Reply.{Reply}
use Rattle.kc_types.specs.declared.reply.Reply.TheVariants as reply
use Rattle.kc_types.specs.declared.owner.Owner.{Owner}
use Rattle.kc_types.specs.declared.owner.Owner.TheVariants.{Vm}
use Rattle.kc_types.specs.declared.custody.Change.{Change}
use Rattle.kc_types.specs.declared.custody.Event.{Event}
use Rattle.kc_types.specs.declared.custody.Event.TheVariants as event
use Rattle.kc_model.specs.State.{State, frame_at}
use Rattle.kc_model.specs.Next.{next}
use Rattle.kc_model.specs.Custody.{changes_by, first_line}

-- the event of the VM that owns the frame, if a VM does
abbrev pub of_owner : (ℕ → Event) → Owner → List Event
of_owner made (Vm v) = made v ∷ []
of_owner made _ = []

-- the host's read or write, if its reply says that it was served
abbrev pub access_by : State → Call → Reply → List Event
access_by m (HostRead f off len) (reply.Data bytes) = of_owner event.Read (frame_at m f).owner
access_by m (HostWrite f off bytes) reply.Done = of_owner event.Write (frame_at m f).owner
access_by m _ _ = []

-- the events of a call
abbrev pub events_by : ℕ → State → Call → List Event
events_by n m call = access_by m call (next m call).0 ++ map event.Change (changes_by n m (next m call).1)

-- the events of calls, one after another; the first call is on line `n`
abbrev pub events_from : ℕ → State → List Call → List Event
events_from n m [] = []
events_from n m (call ∷ calls) = events_by n m call ++ events_from (n + 1) (next m call).1 calls

-- the events of a trace
abbrev pub events : State → List Call → List Event
events m calls = events_from first_line m calls

abbrev pub change_in : Event → Option Change
change_in (event.Change change) = Some change
change_in _ = None

-- the changes among events
abbrev pub changes_in : List Event → List Change
changes_in told = filter_map change_in told
