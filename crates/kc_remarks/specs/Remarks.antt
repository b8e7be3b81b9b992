-- Remarks: what is noted of a call beside its events: that it was refused or rejected, or that it was the host's and a frame of a VM served it. No bytes.
use Rattle.std.specs.Prelude.{ℕ, ◌+◌, nat_lt, List, [], ◌∷◌, ◌++◌, length, map, if◌then◌else◌, Option, Some, None}
use Rattle.std.specs.List.{filter_map}
use Rattle.std.specs.Option.{option_to_list}
use Rattle.kc_types.specs.declared.call.Call.{Call}
use Rattle.kc_types.specs.declared.call.Call.TheVariants.{Take, Give, HostFault, HostRead, HostWrite, RegisterVm, RegisterVcpu, SetBoot, Remap, Verify, Map, GuestRead, GuestWrite, Grant, Revoke, GrantRange, RevokeRange, Drop, Clear}
use Rattle.kc_types.specs.declared.reply.Reply.{Reply}
use Rattle.kc_types.specs.declared.reply.Reply.TheVariants as reply
use Rattle.kc_types.specs.declared.owner.Owner.{Owner}
use Rattle.kc_types.specs.declared.owner.Owner.TheVariants.{Vm}
use Rattle.kc_types.specs.declared.custody.Event.{Event}
use Rattle.kc_types.specs.Slots.{slot_of, vm_of}
use Rattle.kc_remarks.specs.declared.remark.CallKind.{CallKind}
use Rattle.kc_remarks.specs.declared.remark.CallKind.TheVariants as kind
use Rattle.kc_remarks.specs.declared.remark.NamedFrame.{NamedFrame}
use Rattle.kc_remarks.specs.declared.remark.Denial.{Denial}
use Rattle.kc_remarks.specs.declared.remark.Denial.TheVariants as denial
use Rattle.kc_remarks.specs.declared.remark.Note.{Note}
use Rattle.kc_remarks.specs.declared.remark.Note.TheVariants as note
use Rattle.kc_model.specs.State.{State, frame_at, mapped_at}
use Rattle.kc_model.specs.Next.{next}
use Rattle.kc_model.specs.Custody.{first_line}
use Rattle.kc_model.specs.Events.{events_by}

-- the call without its numbers
abbrev pub kind_of : Call → CallKind
kind_of Take = kind.Take
kind_of (Give f) = kind.Give
kind_of (HostFault f) = kind.HostFault
kind_of (HostRead f off len) = kind.HostRead
kind_of (HostWrite f off bytes) = kind.HostWrite
kind_of (RegisterVm v) = kind.RegisterVm
kind_of (RegisterVcpu v c) = kind.RegisterVcpu
kind_of (SetBoot v base len) = kind.SetBoot
kind_of (Remap v i f) = kind.Remap
kind_of (Verify v) = kind.Verify
kind_of (Map v c f) = kind.Map
kind_of (GuestRead v c g off len) = kind.GuestRead
kind_of (GuestWrite v c g off bytes) = kind.GuestWrite
kind_of (Grant v c g) = kind.Grant
kind_of (Revoke v c g) = kind.Revoke
kind_of (GrantRange v c g n) = kind.GrantRange
kind_of (RevokeRange v c g n) = kind.RevokeRange
kind_of (Drop v c g) = kind.Drop
kind_of (Clear v) = kind.Clear

-- the number of the frame that a call names, or that is mapped at the guest frame that it names, of a range at the first
abbrev pub number_named : State → Call → Option ℕ
number_named m (Give f) = Some f
number_named m (HostFault f) = Some f
number_named m (HostRead f off len) = Some f
number_named m (HostWrite f off bytes) = Some f
number_named m (Remap v i f) = Some f
number_named m (Map v c f) = Some f
number_named m (GuestRead v c g off len) = mapped_at m v g
number_named m (GuestWrite v c g off bytes) = mapped_at m v g
number_named m (Grant v c g) = mapped_at m v g
number_named m (Revoke v c g) = mapped_at m v g
number_named m (GrantRange v c g n) = mapped_at m v g
number_named m (RevokeRange v c g n) = mapped_at m v g
number_named m (Drop v c g) = mapped_at m v g
number_named m _ = None

-- the frame of this number, if it exists: who owns it, and where its VM sees it
abbrev pub frame_named : State → Option ℕ → Option NamedFrame
frame_named m None = None
frame_named m (Some f) = if nat_lt f m.config.frames then Some (record { frame = f; owner = (frame_at m f).owner; gfn = (frame_at m f).gfn }) else None

abbrev pub named_by : State → Call → Option NamedFrame
named_by m call = frame_named m (number_named m call)

-- an access to a frame, if a VM owns it
abbrev pub access_at : ℕ → CallKind → ℕ → ℕ → NamedFrame → Option ℕ → Option Note
access_at line call off len named None = None
access_at line call off len named (Some v) = Some (note.Access (record { line = line; call = call; frame = named.frame; vm = v; gfn = named.gfn; offset = off; len = len }))

abbrev pub access_to : ℕ → CallKind → ℕ → ℕ → Option NamedFrame → Option Note
access_to line call off len None = None
access_to line call off len (Some named) = access_at line call off len named (vm_of named.owner)

-- the remark on a call that was answered with bytes, and on one that was done
abbrev pub read_told : ℕ → Option NamedFrame → Call → Option Note
read_told line named (HostRead f off len) = access_to line kind.HostRead off len named
read_told line named _ = None

abbrev pub write_told : ℕ → Option NamedFrame → Call → Option Note
write_told line named (HostWrite f off bytes) = access_to line kind.HostWrite off (length bytes) named
write_told line named _ = None

abbrev pub denied : ℕ → Option NamedFrame → Call → Denial → Option Note
denied line named call reason = Some (note.Denied (record { line = line; call = kind_of call; reason = reason; slot = slot_of call; named = named; foreign = None }))

-- the remark on a call on this line, by the frame that it names and its reply
abbrev pub remark_told : ℕ → Option NamedFrame → Call → Reply → Option Note
remark_told line named call (reply.Refused reason) = denied line named call (denial.Refused reason)
remark_told line named call (reply.Rejected image) = denied line named call (denial.Rejected image)
remark_told line named call (reply.Data bytes) = read_told line named call
remark_told line named call reply.Done = write_told line named call
remark_told line named call _ = None

-- the remark on a call in a state, if there is one
abbrev pub remark_by : ℕ → State → Call → Option Note
remark_by line m call = remark_told line (named_by m call) call (next m call).0

-- what is noted of a call: the remark, and then its events
abbrev pub notes_by : ℕ → State → Call → List Note
notes_by line m call = option_to_list (remark_by line m call) ++ map note.Event (events_by line m call)

-- what is noted of calls, one after another; the first call has this line
abbrev pub notes_from : ℕ → State → List Call → List Note
notes_from n m [] = []
notes_from n m (call ∷ calls) = notes_by n m call ++ notes_from (n + 1) (next m call).1 calls

-- what is noted of a trace
abbrev pub notes : State → List Call → List Note
notes m calls = notes_from first_line m calls

abbrev pub event_in : Note → Option Event
event_in (note.Event event) = Some event
event_in _ = None

-- the events among notes
abbrev pub events_in : List Note → List Event
events_in told = filter_map event_in told
