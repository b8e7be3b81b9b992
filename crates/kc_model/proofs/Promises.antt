-- Every trace from a lawful state keeps all promises.
use Rattle.std.proofs.Common.{List}
use Rattle.kc_types.specs.declared.call.Call.{Call}
use Rattle.kc_model.specs.State.{State}
use Rattle.kc_model.specs.Footprints.{state_at}
use Rattle.kc_model.specs.Lawful.{IsLawful}
use Rattle.kc_model.specs.Promises.{HostStaysBlind, KeepsPromises}
use Rattle.kc_model.proofs.Lawful.LawfulTraces.{lawful-at}
use Rattle.kc_model.proofs.Safe.Safe.{safe}
use Rattle.kc_model.proofs.Safe.Alone.{passed_on}
use Rattle.kc_model.proofs.Safe.Starting.{started}
use Rattle.kc_model.proofs.Safe.Available.{available}
use Rattle.kc_model.proofs.States.Sizes.{config-after}
use Rattle.kc_model.proofs.Safe.Arriving.{arrived}
use Rattle.kc_model.proofs.Safe.Serving.{serving}
use Rattle.kc_model.proofs.Safe.Sharing.{shared}
use Rattle.kc_model.proofs.Safe.Writing.{written-only}
use Rattle.kc_model.proofs.Custody.Written.{own_memory}
use Rattle.kc_model.proofs.Blind.HostBlind.{host_is_blind}
use Rattle.kc_model.proofs.Undisturbed.Traces.{undisturbed}

stays_blind : (m : State) (calls : List Call) → IsLawful m → HostStaysBlind m calls
stays_blind m calls is i low = host_is_blind (state_at m calls i) _ (lawful-at m calls is i low)

pub promises_kept : (m : State) (calls : List Call) → IsLawful m → KeepsPromises m calls
promises_kept m calls is = record {
  safe = safe m calls is;
  passing = passed_on m calls is;
  own_memory = own_memory m calls is;
  started = started m calls is;
  available = available m calls is;
  arrived = arrived m calls is;
  serving = serving m calls is;
  shared = shared m calls is;
  written = written-only m calls is;
  config = config-after m calls;
  blind = stays_blind m calls is;
  undisturbed = undisturbed m calls is;
}
