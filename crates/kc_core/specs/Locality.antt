-- A call needs no more than what it may touch.
use Rattle.std.specs.Prelude.{◌≡◌}
use Rattle.kc_types.specs.declared.call.Call.{Call}
use Rattle.kc_types.specs.declared.reply.Reply.{Reply}
use Rattle.kc_model.specs.State.{State}
use Rattle.kc_model.specs.Lawful.{IsLawful}
use Rattle.kc_model.specs.Next.{next}
use Rattle.kc_model.specs.Resources.{Resource, Resources, merged, need, IsWithin}
use Rattle.kc_model.specs.Local.{IsOrderly, cut}
use Rattle.kc_parts.specs.Parts.{Held}
use Rattle.kc_parts.specs.Restricted.{IsRestricted, IsClosed}
use Rattle.kc_core.specs.Applying.{IsAble, IsAnswer}

-- parts that are a lawful state's at some resources, with its links and ends: if the call needs no others, it can be
-- made on them, answers what the state answers, and leaves the next state's parts at the same resources
pub record IsLocalityOfParts : Type 0 where
  pub able : (m : State) (here : Resources) (h : Held) (call : Call) → IsLawful m → IsClosed m here → IsRestricted m here h → IsWithin (need m call) here → IsAble m.config h call
  pub step : (m : State) (here : Resources) (old new : Held) (call : Call) (reply : Reply) → IsLawful m → IsClosed m here → IsRestricted m here old → IsWithin (need m call) here
      → IsAnswer m.config old new call reply → (reply ≡ (next m call).0) × IsRestricted (next m call).1 here new
  -- all frames of a list stay with the list's ends
  pub closed : (m : State) (here : Resources) (old new : Held) (call : Call) (reply : Reply) → IsLawful m → IsClosed m here → IsRestricted m here old → IsWithin (need m call) here
      → IsAnswer m.config old new call reply → IsClosed (next m call).1 here

-- what a call does with parts, it does with every lawful state that they are cut from, whatever the rest of it is
pub record IsLocality : Type 0 where
  -- the reply is that of the whole state, the parts are what that leaves of them, and the rest stays
  pub step : (here : Resources) (m rest held left : State) (call : Call) (reply : Reply) → IsLawful m → IsWithin (need m call) here → held ≡ merged here m rest
      → reply ≡ (next held call).0 → left ≡ (next held call).1 → (reply ≡ (next m call).0) × (left ≡ merged here (next m call).1 rest)
  -- parts that are cut from a lawful state are orderly, and the call needs the same in them
  pub orderly : (here : Resources) (m : State) → IsLawful m → IsOrderly (cut m here)
  pub needs : (here : Resources) (m rest : State) (call : Call) → IsWithin (need m call) here → (r : Resource) → need (merged here m rest) call r ≡ need m call r
