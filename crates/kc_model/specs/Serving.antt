-- Whose calls are served, what a VM can always do, and that it takes back what it shared.
use Rattle.std.specs.Prelude.{ℕ, ◌≡◌, ◌<◌, ◌+◌, true, List, Some}
use Rattle.kc_types.specs.Actors.{actor}
use Rattle.kc_types.specs.declared.call.Actor.TheVariants.{Vcpu}
use Rattle.kc_types.specs.declared.call.Call.{Call}
use Rattle.kc_types.specs.declared.call.Call.TheVariants.{Revoke, Drop}
use Rattle.kc_types.specs.declared.reply.Reply.{Reply}
use Rattle.kc_types.specs.declared.reply.Reply.TheVariants as reply
use Rattle.kc_model.specs.State.{State, frame_at, vcpu_at, mapped_at}
use Rattle.kc_model.specs.Safety.{EachStep, IsActive}

abbrev pub IsServed : Reply → Type 0
IsServed (reply.Refused refusal) = ⊥
IsServed _ = Unit {0}

-- no virtual processor is served but a registered one of an active VM: what was not measured and approved does not run
abbrev pub ServesActive : State → Call → Reply → State → Type 0
ServesActive old call answer new = (v c : ℕ) → actor call ≡ Vcpu v c → IsServed answer → IsActive old v × ((vcpu_at old v c).registered ≡ true)

-- a registered virtual processor of an active VM asks about a page of its own
pub record MayAsk (m : State) (v c g f : ℕ) : Type 0 where
  pub active : IsActive m v
  pub registered : (vcpu_at m v c).registered ≡ true
  pub mapped : mapped_at m v g ≡ Some f

-- it may always take back a page that it shares, and give up one that it does not
abbrev pub ServesOwner : State → Call → Reply → State → Type 0
ServesOwner old (Revoke v c g) answer new = (f : ℕ) → MayAsk old v c g f → 0 < (frame_at old f).share → answer ≡ reply.Done
ServesOwner old (Drop v c g) answer new = (f : ℕ) → MayAsk old v c g f → (frame_at old f).share ≡ 0 → answer ≡ reply.Done
ServesOwner old _ answer new = Unit {0}

-- a revoke that is done leaves one grant less
abbrev pub TakesBack : State → Call → Reply → State → Type 0
TakesBack old (Revoke v c g) reply.Done new = (f : ℕ) → mapped_at old v g ≡ Some f → (frame_at old f).share ≡ (frame_at new f).share + 1
TakesBack old _ _ new = Unit {0}

pub record IsServing (m : State) (calls : List Call) : Type 0 where
  pub active : EachStep ServesActive m calls
  pub owner : EachStep ServesOwner m calls
  pub back : EachStep TakesBack m calls
