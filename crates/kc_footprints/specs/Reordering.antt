-- The calls of a trace in another order.
use Rattle.std.specs.Prelude.{ℕ, ◌≡◌, Bool, false, List, [], ◌∷◌, length}
use Rattle.kc_types.specs.declared.call.Call.{Call}
use Rattle.kc_model.specs.State.{State}
use Rattle.kc_model.specs.Lawful.{IsLawful}
use Rattle.kc_model.specs.Resources.{need, IsWithin}
use Rattle.kc_model.specs.Next.{next, state_after}
use Rattle.kc_model.specs.Footprints.{call_at, reply_at, footprint}
use Rattle.kc_footprints.specs.Reorder.{IsDue, IsTaken, IsReordering, IsByWaves}
use Rattle.kc_footprints.specs.Commuting.{IsWaves}

-- the store after the calls of these numbers, in this order
abbrev pub after_order : List Call → State → List ℕ → State
after_order calls store [] = store
after_order calls store (k ∷ ks) = after_order calls (next store (call_at calls k)).1 ks

-- each call gets the reply that it gets in the trace's order
abbrev pub AnswersAlike : State → List Call → State → List ℕ → Type 0
AnswersAlike m calls store [] = Unit {0}
AnswersAlike m calls store (k ∷ ks) = ((next store (call_at calls k)).0 ≡ reply_at m calls k) × AnswersAlike m calls (next store (call_at calls k)).1 ks

-- an order in which calls that share a resource keep their order gives the same replies and the same final state
abbrev pub IsOrderFree : Type 0
IsOrderFree = (m : State) (calls : List Call) (order : List ℕ) → IsLawful m → IsReordering (footprint m calls) (length calls) (λ k. false) order
    → AnswersAlike m calls m order × (after_order calls m order ≡ state_after m calls)

-- so does wave after wave, in whatever order within each wave
abbrev pub IsWaveOrderFree : Type 0
IsWaveOrderFree = (m : State) (calls : List Call) (wave : ℕ → ℕ) (order : List ℕ) → IsLawful m → IsWaves m calls wave → IsByWaves wave (length calls) (λ k. false) order
    → AnswersAlike m calls m order × (after_order calls m order ≡ state_after m calls)

-- in the store that calls in such an order leave, a call that is due needs no more than its footprint
abbrev pub IsReadiness : Type 0
IsReadiness = (m : State) (calls : List Call) (order : List ℕ) (done : ℕ → Bool) (k : ℕ) → IsLawful m → IsTaken (footprint m calls) (length calls) (λ j. false) order done → IsDue (footprint m calls) (length calls) done k
    → IsWithin (need (after_order calls m order) (call_at calls k)) (footprint m calls k)
