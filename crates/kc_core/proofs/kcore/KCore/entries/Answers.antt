use Rattle.std.proofs.Common.{sym, ap, ◌∙◌}
use Rattle.std.specs.FinMap as finite
use Rattle.kc_model.specs.State.{Slot}
use Rattle.kc_model.proofs.States.Slots.{slot-past}
use Rattle.kc_vms.proofs.Rising.{empty-entries}
use Rattle.kc_core.proofs.SlotsShown.{past_none}
use Rattle.kc_core.proofs.kcore.KCore.entries.Goals as goal

pub returns-in-None : goal.returns-in-None
returns-in-None c =
    let past = slot-past c.args.self.now.state c.args.vm c.try_slot.ensures.lawful.slots (past_none c.args.vm _ c.in-None.ensures.exists.1) in
    c.new.ensures.items ∙ sym (ap (λ (slot : Slot). finite.entries slot.mapped) past ∙ empty-entries)
