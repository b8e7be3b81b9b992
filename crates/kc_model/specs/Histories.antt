-- Histories: the calls made to one core, in order, with their replies.
use Rattle.std.specs.Prelude.{◌≡◌, ◌==◌, ◌&&◌, Bool, true, false, List, [], ◌∷◌, if◌then◌else◌}
use Rattle.kc_types.specs.Actors.{actor}
use Rattle.kc_types.specs.declared.call.Call.{Call}
use Rattle.kc_types.specs.declared.call.Actor.{Actor}
use Rattle.kc_types.specs.declared.call.Actor.TheVariants.{Host, Vcpu}
use Rattle.kc_types.specs.declared.reply.Reply.{Reply}
use Rattle.kc_model.specs.State.{State}
use Rattle.kc_model.specs.Next.{replies_from}

-- one thread that makes these calls from this state on gets these replies: a legal sequential history
abbrev pub IsLegalHistory : State → List Call → List Reply → Type 0
IsLegalHistory start calls replies = replies ≡ replies_from start calls

abbrev pub same_actor : Actor → Actor → Bool
same_actor Host Host = true
same_actor Host (Vcpu v c) = false
same_actor (Vcpu v c) Host = false
same_actor (Vcpu v c) (Vcpu w d) = (v == w) && (c == d)

-- the calls of one actor, in order
abbrev pub calls_by : Actor → List Call → List Call
calls_by a [] = []
calls_by a (call ∷ calls) = if same_actor a (actor call) then call ∷ calls_by a calls else calls_by a calls
