use Rattle.std.proofs.Common.{arith, ap, ◌∙◌}
use Rattle.kc_types.specs.Configuration.{slot_count}
use Rattle.kc_snapshot.specs.Told.{slot_rest}
use Rattle.kc_state_text.specs.StateText.{slot_line}
use Rattle.kc_state_text.proofs.Appended.{all-written}
use Rattle.kc_state_text.proofs.writing.push_slots.Goals as goal

pub returns : goal.returns
returns c =
    let all = c.config.ensures.lawful.slots in
    let count = c.slots-vm-end.ensures.value ∙ ap slot_count c.config.ensures.value in
    let past = c.loop-vm-test.false in
    all-written slot_line slot_rest c.args.core.now.state.slots c.loop-vm.vm c.args.text.now.items c.loop-vm.text.items (omega (arith, all, count, past)) c.loop-vm.invariant
