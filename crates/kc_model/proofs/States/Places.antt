-- The state before each call, its reply and the state at the end, as the fold over the trace gives them.
use Rattle.std.proofs.Common.{ℕ, zero, suc, ◌≡◌, ◌≤◌, List, [], ◌∷◌, length, refl, ap, ◌∙◌, arith}
use Rattle.kc_types.specs.declared.call.Call.{Call}
use Rattle.kc_model.specs.State.{State}
use Rattle.kc_model.specs.Next.{next, state_after}
use Rattle.kc_model.specs.Footprints.{call_at, state_at}

-- a place of a trace is one place earlier in the trace's rest
pub state_at-rest : (m : State) (call : Call) (calls : List Call) (k : ℕ) → state_at m (call ∷ calls) (suc k) ≡ state_at (next m call).1 calls k
state_at-rest m call calls zero = refl
state_at-rest m call calls (suc k) = ap (λ s. (next s (call_at calls k)).1) (state_at-rest m call calls k)

-- the last state
pub state_at-end : (m : State) (calls : List Call) → state_at m calls (length calls) ≡ state_after m calls
state_at-end m [] = refl
state_at-end m (call ∷ calls) = state_at-rest m call calls (length calls) ∙ state_at-end (next m call).1 calls

-- what each call keeps holds before each call of a trace, and at its end
pub good-at : (IsGood : State → Type 0) → ((s : State) (call : Call) → IsGood s → IsGood (next s call).1) → (m : State) (calls : List Call) → IsGood m → (k : ℕ) → k ≤ length calls → IsGood (state_at m calls k)
good-at IsGood keeps m calls good zero le = good
good-at IsGood keeps m calls good (suc k) le = keeps (state_at m calls k) (call_at calls k) (good-at IsGood keeps m calls good k (omega arith))
