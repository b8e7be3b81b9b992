-- What a call does in a store that has the right parts only in the call's footprint.
use Rattle.std.specs.Prelude.{ℕ, ◌≡◌, ◌<◌, suc, false, List, length}
use Rattle.kc_types.specs.declared.call.Call.{Call}
use Rattle.kc_model.specs.State.{State}
use Rattle.kc_model.specs.Lawful.{IsLawful}
use Rattle.kc_model.specs.Next.{next}
use Rattle.kc_model.specs.Resources.{Resource, part_of}
use Rattle.kc_model.specs.Local.{AgreesOn}
use Rattle.kc_model.specs.Footprints.{call_at, state_at, reply_at, footprint}

-- a call of the trace, made in a store that has the right parts in the call's footprint and anything elsewhere
pub record IsStep (m : State) (calls : List Call) (k : ℕ) (store : State) : Type 0 where
  pub reply : (next store (call_at calls k)).0 ≡ reply_at m calls k
  pub here : AgreesOn (footprint m calls k) (state_at m calls (suc k)) (next store (call_at calls k)).1
  pub elsewhere : (r : Resource) → footprint m calls k r ≡ false → part_of (next store (call_at calls k)).1 r ≡ part_of store r

abbrev pub IsStepping : Type 0
IsStepping = (m : State) (calls : List Call) → IsLawful m → (k : ℕ) → k < length calls → (store : State) → AgreesOn (footprint m calls k) (state_at m calls k) store → IsStep m calls k store
