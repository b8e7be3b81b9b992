-- What a pointer that C keeps owns.
use base.Fml.{Fml, ftrue}
use base.Stored.{Coded}
use denote.RawPtr.{Ptr}
use Rattle.std.specs.Prelude.{Option, Some, None}
use Rattle.std.specs.Coded.{coded_option}
use Rattle.std.specs.Box.Ownership.{box_owns}
use Rattle.std.specs.Global.{Global}
use Rattle.std.specs.contracts.impls.GlobalAllocator.TheImpl.{ghosts}
use Rattle.kc_session.specs.contracts.session.Session.{the_row}

-- a session, as a `Box<Session>` owns one; if there is none, nothing
abbrev pub held_owns : Global → Ptr → Option the_row.Denot → Fml
held_owns alloc ptr (Some session) = box_owns (ghosts.dealloc_token alloc) the_row ptr session
held_owns alloc ptr None = ftrue

abbrev pub held_coded : Coded (Option the_row.Denot)
held_coded = coded_option the_row.coded
