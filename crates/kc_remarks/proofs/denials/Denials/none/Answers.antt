use Rattle.std.proofs.Common.{refl}
use Rattle.kc_model.proofs.States.Slots.{get_or-same}
use Rattle.kc_remarks.proofs.denials.Denials.none.Goals as goal

pub returns-clause-counted : goal.returns-clause-counted
returns-clause-counted c room = record { total = refl; each = λ reason. get_or-same 27 0 reason; frames = refl }
