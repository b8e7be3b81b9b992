-- What every trace keeps, whatever the host and the VMs call.
use Rattle.std.specs.Prelude.{ℕ, ◌≡◌, ◌≤◌, List, length, drop}
use Rattle.kc_types.specs.declared.call.Call.{Call}
use Rattle.kc_model.specs.State.{State}
use Rattle.kc_model.specs.Footprints.{state_at}
use Rattle.kc_model.specs.Next.{state_after}
use Rattle.kc_model.specs.Arriving.{IsArrived}
use Rattle.kc_model.specs.Serving.{IsServing}
use Rattle.kc_model.specs.Sharing.{IsShared}
use Rattle.kc_model.specs.Writing.{IsWritten}
use Rattle.kc_model.specs.Safety.{IsSafe}
use Rattle.kc_model.specs.Passing.{IsPassedOn}
use Rattle.kc_model.specs.OwnMemory.{IsOwnMemory}
use Rattle.kc_model.specs.Starting.{IsStarted}
use Rattle.kc_model.specs.Availability.{IsAvailable}
use Rattle.kc_model.specs.Blind.{HostIsBlind}
use Rattle.kc_model.specs.Undisturbed.{IsUndisturbed}

-- the host is blind from each call of the trace on: what is private there, even if only since its last revoke, is
-- secret until a grant declassifies it
abbrev pub HostStaysBlind : State → List Call → Type 0
HostStaysBlind m calls = (i : ℕ) → i ≤ length calls → HostIsBlind (state_at m calls i) (drop i calls)

pub record KeepsPromises (m : State) (calls : List Call) : Type 0 where
  pub safe : IsSafe m calls
  pub passing : IsPassedOn m calls
  pub own_memory : IsOwnMemory m calls
  pub started : IsStarted m calls
  pub available : IsAvailable m calls
  pub arrived : IsArrived m calls
  pub serving : IsServing m calls
  pub shared : IsShared m calls
  pub written : IsWritten m calls
  -- the machine, and what it approves, stay as they were
  pub config : (state_after m calls).config ≡ m.config
  pub blind : HostStaysBlind m calls
  pub undisturbed : IsUndisturbed m calls
