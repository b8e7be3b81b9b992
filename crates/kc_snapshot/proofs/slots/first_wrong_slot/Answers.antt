use Rattle.std.proofs.Common.{◌≡◌, ◌<◌, [], inl, inr, get_or, ap, ◌∙◌, length, arith}
use Rattle.std.proofs.lemmas.Bool.{cases_lt}
use Rattle.std.proofs.lemmas.List.{get_or_read}
use Rattle.kc_dump.specs.Dump.{slot_dump_at, empty_dump}
use Rattle.kc_snapshot.specs.Unlawful.{IsSlotOf, slot_rest_at}
use Rattle.kc_snapshot.proofs.slots.first_wrong_slot.Goals as goal

pub loop-vm-preserved : goal.loop-vm-preserved
loop-vm-preserved c =
    let n = c.loop-vm.vm in
    let slots = c.args.dump.now.slots in
    let rests = c.args.rests.now in
    let test = c.loop-vm-test.true in
    let long = c.requires in
    let end : length c.slots-vm-end.result.now ≡ length slots = ap length c.slots-vm-end.ensures.value in
    let low : n < length slots = omega (arith, test, end) in
    let slot : c.index-slots-vm.result ≡ slot_dump_at c.args.dump.now n = get_or_read slots n c.index-slots-vm.result low (c.index-slots-vm.is ∙ ap (λ l. get_or l n c.index-slots-vm.result) c.slots.ensures.value) empty_dump in
    let rest : c.index-rests-vm.result ≡ slot_rest_at rests n = get_or_read rests n c.index-rests-vm.result (omega (arith, low, long)) c.index-rests-vm.is (record { vcpus = []; images = [] }) in
    let here : IsSlotOf c.args.dump.now.version (slot_dump_at c.args.dump.now n) (slot_rest_at rests n) = rw (slot, rest, c.version.ensures) at (c.is_slot_of.ensures.0 c.if-not-is_slot_of.false) in
    λ v lt. elim (cases_lt v n) [
      | inl less ↦ c.loop-vm.invariant v less
      | inr more ↦ let same : v ≡ n = omega (arith, lt, more) in rw same here
    ]
