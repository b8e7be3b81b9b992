-- A handle may go to another thread if a session may, or if there is none behind its pointer.
use mir.Raw.{raw}
use base.Shift.{Keyless}
use denote.Memory.{lone}
use denote.RawPtr.{Ptr}
use denote.Struct.Struct.{exits_of}
use denote.Struct.Owning.{shape, fields, to}
use denote.Param.Send.{IsSend, AllSend, owning_send, struct_send, sendable}
use Rattle.std.specs.Prelude.{Option, Some, None}
use Rattle.std.specs.Global.{Global}
use Rattle.std.proofs.Crossing as heap
use Rattle.std_alloc.proofs.SendSync.{quiet, lies}
use Rattle.std_heap.proofs.Global.TheSendSync as handle
use Rattle.kc_session.specs.contracts.session.Session as Session
use Rattle.kc_session.proofs.session.Session.TheSendSync.{the_send as session}
use Rattle.kcore_c.specs.Handle.{held_owns}
use Rattle.kcore_c.specs.contracts.handle.held.Held.{the_row, the_type}

owned : (alloc : Global) (p : Ptr) (held : Option Session.the_row.Denot) → Keyless (held_owns alloc p held)
owned alloc p (Some x) = (lies Session.the_row session p x, heap.frees.frees alloc (raw (lone Session.the_row.mir)) p)
owned alloc p None = tt

pub send : IsSend the_row
send =
    let all : AllSend (fields the_type) = (search sendable, (handle.the_field_send, tt)) in
    owning_send the_type all (λ d. owned d.alloc d.ptr d.session)
    (λ k. quiet (to the_type) (exits_of k (fields the_type)) ((struct_send (shape the_type) all).leaving k))
