use Rattle.std.proofs.Common.{sym, ap}
use Rattle.kc_model.specs.State.{Slot}
use Rattle.kc_model.proofs.States.Slots.{slot-past}
use Rattle.kc_core.proofs.SlotsShown.{past_none}
use Rattle.kc_custody.proofs.look_ups.phase_at.Goals as goal

pub returns-in-None : goal.returns-in-None
returns-in-None c =
    let past = past_none c.args.vm _ c.in-None.ensures.exists.1 in
    sym (ap (λ (slot : Slot). slot.phase) (slot-past c.args.core.now.state c.args.vm c.config-config.ensures.lawful.slots past))
