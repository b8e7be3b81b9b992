-- One call, and a whole trace.
use Rattle.std.specs.Prelude.{List, [], ◌∷◌, Option, Some, None}
use Rattle.kc_types.specs.declared.call.Call.{Call}
use Rattle.kc_types.specs.declared.reply.Reply.{Reply}
use Rattle.kc_types.specs.declared.reply.Reply.TheVariants as reply
use Rattle.kc_types.specs.declared.refusal.Refusal.{Refusal}
use Rattle.kc_model.specs.State.{State}
use Rattle.kc_model.specs.Refusals.{refusal}
use Rattle.kc_model.specs.Effects.{Outcome, effect}

-- a refused call answers the refusal and changes nothing
abbrev pub unless_refused : Option Refusal → State → Call → Outcome
unless_refused (Some refusal) m call = (reply.Refused refusal, m)
unless_refused None m call = effect m call

-- one call, a deterministic step of the specification; the code is a refinement of it: on the state of its parts,
-- `apply` of kc_core has this outcome
unfoldable pub next : State → Call → Outcome
next m call = unless_refused (refusal m call) m call

-- the replies to a trace, in order
abbrev pub replies_from : State → List Call → List Reply
replies_from m [] = []
replies_from m (call ∷ calls) = (next m call).0 ∷ replies_from (next m call).1 calls

-- the state that a trace leaves
abbrev pub state_after : State → List Call → State
state_after m [] = m
state_after m (call ∷ calls) = state_after (next m call).1 calls
