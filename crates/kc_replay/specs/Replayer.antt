-- A replay whose trace comes in segments.
use Rattle.std.specs.Prelude.{ℕ, ◌≡◌, ◌+◌, List, [], ◌∷◌, ◌++◌, length, Option, Some}
use Rattle.kc_types.specs.declared.call.Call.{Call}
use Rattle.kc_types.specs.declared.reply.Reply.{Reply}
use Rattle.kc_model.specs.State.{State}
use Rattle.kc_model.specs.Next.{replies_from, state_after}
use Rattle.kc_model.specs.Blind.{ShowsNothing}
use Rattle.kc_replay.specs.declared.segment.Outcome.{Outcome}

-- the state that the calls so far left, or none after a segment that failed; the number of calls so far; and the
-- number of workers
pub record Replaying : Type 0 where
  pub state : Option State
  pub fed : ℕ
  pub workers : ℕ

-- the replies to some calls and the state after them are those of one thread
pub record IsFed (before after : Replaying) (calls : List Call) (replies : List Reply) : Type 0 where
  pub start : State
  pub from : before.state ≡ Some start
  pub given : replies ≡ replies_from start calls
  pub state : after.state ≡ Some (state_after start calls)
  pub fed : after.fed ≡ before.fed + length calls
  pub workers : after.workers ≡ before.workers

-- deterministic replay, by whatever number of workers: the replies and the core are those of one thread that makes the
-- calls in order, and neither shows what no VM granted
pub record IsReplayOf (m : State) (calls : List Call) (outcome : Outcome) : Type 0 where
  pub replies : outcome.replies.items ≡ replies_from m calls
  pub state : outcome.core.state ≡ state_after m calls
  pub blind : ShowsNothing m calls outcome.replies.items outcome.core.state

-- the replies to segments in turn, joined
unfoldable pub replies_to_each : State → List (List Call) → List Reply
replies_to_each m [] = []
replies_to_each m (calls ∷ segments) = replies_from m calls ++ replies_to_each (state_after m calls) segments

-- the state after segments in turn
unfoldable pub state_after_each : State → List (List Call) → State
state_after_each m [] = m
state_after_each m (calls ∷ segments) = state_after_each (state_after m calls) segments
