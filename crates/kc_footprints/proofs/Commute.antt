-- The law of waves, over the footprints of a trace.
use Rattle.std.proofs.Common.{arith, length}
use Rattle.kc_model.specs.Resources.{need}
use Rattle.kc_model.specs.Linked.{linked_part_at}
use Rattle.kc_model.specs.Footprints.{call_at, state_at, part_at, footprint}
use Rattle.kc_model.proofs.Local.Agreeing.{agrees-next, keeps-rest}
use Rattle.kc_model.proofs.Footprints.Reaches.{need-within, footprint-keeps, not-held}
use Rattle.kc_model.proofs.Local.LinksKept.{links-kept}
use Rattle.kc_model.proofs.Lawful.LawfulTraces.{lawful-at, orderly-at, lists-all}
use Rattle.kc_footprints.proofs.OrderLaws.{commutes}
use Rattle.kc_footprints.specs.Commuting.{IsCommuting, IsCommutingLinked, HasNeeds}
use Rattle.kc_footprints.specs.Stepping.{IsStepping}

pub has_needs : HasNeeds
has_needs m calls is k lt r h = need-within m calls is (orderly-at m calls is) k lt r h

pub is_stepping : IsStepping
is_stepping m calls is k lt store agrees =
    let orderly = orderly-at m calls is k lt in
    let within = has_needs m calls is k lt in
    let after = agrees-next (footprint m calls k) (state_at m calls k) store (call_at calls k) orderly within agrees in
    record {
      reply = after.0;
      here = after.1;
      elsewhere = λ r outside. keeps-rest (footprint m calls k) (state_at m calls k) store (call_at calls k) orderly within agrees r outside;
    }

pub is_commuting : IsCommuting
is_commuting m calls wave is plan =
    commutes (footprint m calls) wave (part_at m calls) (length calls) plan
    (λ k r lt outside. footprint-keeps m calls is (orderly-at m calls is) k lt r outside)

pub is_commuting_linked : IsCommutingLinked
is_commuting_linked m calls wave is plan =
    commutes (footprint m calls) wave (linked_part_at m calls) (length calls) plan
    (λ k r lt outside.
    links-kept (state_at m calls k) (call_at calls k) (orderly-at m calls is k lt) (lists-all (state_at m calls k) (lawful-at m calls is k (omega (arith, lt)))) r
    (not-held (need (state_at m calls k) (call_at calls k) r) (footprint m calls k r) (has_needs m calls is k lt r) outside))
