-- Where a run stops when memory runs out.
use Rattle.std.specs.Prelude.{ℕ, ◌≡◌, ◌≤◌, List, length, take}
use Rattle.kc_types.specs.declared.call.Call.{Call}
use Rattle.kc_types.specs.declared.reply.Reply.{Reply}
use Rattle.kc_model.specs.State.{State}
use Rattle.kc_model.specs.Next.{replies_from, state_after}

-- a run that stopped within the trace, with the replies and the state of the calls before
pub record StopsAfter (old : State) (calls : List Call) (done : ℕ) (replies : List Reply) (new : State) : Type 0 where
  pub within : done ≤ length calls
  pub replies_so_far : replies ≡ replies_from old (take done calls)
  pub state_so_far : new ≡ state_after old (take done calls)
