-- The seats from which actors call.
use Rattle.std.specs.Prelude.{◌≡◌, List, [], ◌∷◌, ◌++◌}
use Rattle.kc_types.specs.declared.call.Call.{Call}
use Rattle.kc_types.specs.declared.call.Actor.{Actor}
use Rattle.kc_live.specs.declared.receipt.Receipt.{Receipt}

-- an actor, and the receipts of the calls that it made from here, in order
pub record SeatView : Type 0 where
  pub actor : Actor
  pub receipts : List Receipt

abbrev pub new_seat : Actor → SeatView
new_seat actor = record { actor = actor; receipts = [] }

-- the seat with one receipt more
abbrev pub gaining : SeatView → Receipt → SeatView
gaining seat r = record { actor = seat.actor; receipts = seat.receipts ++ r ∷ [] }

-- the seat has one receipt more, which is of this call
abbrev pub GainsReceipt : SeatView → SeatView → Call → Type 0
GainsReceipt old new call = (r : Receipt) × (r.call ≡ call) × (new ≡ gaining old r)
