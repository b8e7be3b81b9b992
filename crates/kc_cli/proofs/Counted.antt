-- How calls were answered, once their trace has ended.
use Rattle.std.proofs.Common.{◌≡◌, ℕ, suc, List, [], ◌∷◌, length, refl, ap, sym, ◌∙◌}
use Rattle.kc_types.specs.declared.call.Call.{Call}
use Rattle.kc_model.specs.State.{State}
use Rattle.kc_model.specs.Next.{next, replies_from}
use Rattle.kc_remarks.specs.declared.denials.Answered.{Answered}
use Rattle.kc_remarks.specs.Denials.{AreCounts, IsAnsweredBy}
use Rattle.kc_remarks.proofs.Counts.{outside_is, naming_is}

pub one_each : (m : State) (calls : List Call) → length (replies_from m calls) ≡ length calls
one_each m [] = refl
one_each m (call ∷ calls) = ap suc (one_each (next m call).1 calls)

pub answered_by : (m : State) (calls : List Call) (answered : Answered) → answered.calls ≡ length calls → AreCounts (replies_from m calls) answered.denials → IsAnsweredBy (replies_from m calls) answered
answered_by m calls answered count denials =
    let long = count ∙ sym (one_each m calls) in
    record {
      calls = long;
      denials = denials;
      outside = outside_is (replies_from m calls) answered.denials denials;
      naming = naming_is (replies_from m calls) answered long denials;
    }
