-- What the changes of every trace say.
use Rattle.std.proofs.Common.{List}
use Rattle.kc_types.specs.declared.call.Call.{Call}
use Rattle.kc_model.specs.State.{State}
use Rattle.kc_model.specs.Lawful.{IsLawful}
use Rattle.kc_model.specs.CustodyLaws.{IsCustody}
use Rattle.kc_model.proofs.Custody.Traced.{exact, exact_for_slots}
use Rattle.kc_model.proofs.Custody.Still.{still}
use Rattle.kc_model.proofs.Custody.Private.{private}
use Rattle.kc_model.proofs.Custody.Active.{active}
use Rattle.kc_model.proofs.Custody.Phases.{stays_active}
use Rattle.kc_model.proofs.Custody.Tells.{tells_frames, tells_phases}
use Rattle.kc_model.proofs.Custody.Ordered.{within, ordered}

pub custody_is : (m : State) (calls : List Call) → IsLawful m → IsCustody m calls
custody_is m calls is = record {
  exact = exact m calls;
  stays = still m calls is;
  private = private m calls is;
  active = active m calls is;
  frames = tells_frames m calls;
  exact_for_slots = exact_for_slots m calls;
  stays_active = stays_active m calls is;
  phases = tells_phases m calls;
  within = within m calls;
  ordered = ordered m calls;
}
