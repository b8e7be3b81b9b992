use Rattle.std.proofs.Common.{◌≡◌, ◌<◌, ◌+◌, ◌++◌, ◌∷◌, [], get_or, ap, ◌∙◌, length, length-append, arith}
use Rattle.std.proofs.lemmas.List.{get_or_read}
use Rattle.kc_types.proofs.Ranges.{few-leaves}
use Rattle.kc_vms.specs.Vm.{capacity_for}
use Rattle.kc_dump.specs.Dump.{slot_dump_at, empty_dump}
use Rattle.kc_snapshot.specs.Unlawful.{slot_rest_at}
use Rattle.kc_snapshot.specs.Making.{IsVmTold}
use Rattle.kc_snapshot.proofs.Mappings.{mappings, vms-more, longer}
use Rattle.kc_snapshot.proofs.making.make_slots.Goals as goal

pub make_slot-requires-clause-room : goal.make_slot-requires-clause-room
make_slot-requires-clause-room c =
    let few = c.slots-vm-end.ensures.kept.few_leaves in
    omega (arith, few, c.leaves.ensures, few-leaves c.args.dump.now.version)

pub make_slot-requires-clause-kept : goal.make_slot-requires-clause-kept
make_slot-requires-clause-kept c =
    let n = c.loop-vm.vm in
    let slots = c.args.dump.now.slots in
    let rests = c.args.rests.now in
    let test = c.loop-vm-test.true in
    let long = c.requires.count in
    let end : length c.slots-vm-end.result.now ≡ length slots = ap length c.slots-vm-end.ensures.value in
    let low : n < length slots = omega (arith, test, end) in
    let slot : c.index-slots-vm.result ≡ slot_dump_at c.args.dump.now n = get_or_read slots n c.index-slots-vm.result low (c.index-slots-vm.is ∙ ap (λ l. get_or l n c.index-slots-vm.result) c.slots-in-loop-vm.ensures.value) empty_dump in
    let rest : c.index-rests-vm.result ≡ slot_rest_at rests n = get_or_read rests n c.index-rests-vm.result (omega (arith, low, long)) c.index-rests-vm.is (record { vcpus = []; images = [] }) in
    rw (slot, rest, c.version-version.ensures) (c.requires.slots n low).kept

pub make_slot-requires-clause-mappings : goal.make_slot-requires-clause-mappings
make_slot-requires-clause-mappings c =
    let n = c.loop-vm.vm in
    let slots = c.args.dump.now.slots in
    let rests = c.args.rests.now in
    let test = c.loop-vm-test.true in
    let long = c.requires.count in
    let end : length c.slots-vm-end.result.now ≡ length slots = ap length c.slots-vm-end.ensures.value in
    let low : n < length slots = omega (arith, test, end) in
    let slot : c.index-slots-vm.result ≡ slot_dump_at c.args.dump.now n = get_or_read slots n c.index-slots-vm.result low (c.index-slots-vm.is ∙ ap (λ l. get_or l n c.index-slots-vm.result) c.slots-in-loop-vm.ensures.value) empty_dump in
    rw (slot, c.leaves.ensures, c.version-version.ensures) (mappings c.args.dump.now n c.slots-vm-end.ensures.kept c.requires.sound low)

pub loop-vm-preserved : goal.loop-vm-preserved
loop-vm-preserved c =
    let n = c.loop-vm.vm in
    let slots = c.args.dump.now.slots in
    let rests = c.args.rests.now in
    let test = c.loop-vm-test.true in
    let long = c.requires.count in
    let end : length c.slots-vm-end.result.now ≡ length slots = ap length c.slots-vm-end.ensures.value in
    let low : n < length slots = omega (arith, test, end) in
    let slot : c.index-slots-vm.result ≡ slot_dump_at c.args.dump.now n = get_or_read slots n c.index-slots-vm.result low (c.index-slots-vm.is ∙ ap (λ l. get_or l n c.index-slots-vm.result) c.slots-in-loop-vm.ensures.value) empty_dump in
    let rest : c.index-rests-vm.result ≡ slot_rest_at rests n = get_or_read rests n c.index-rests-vm.result (omega (arith, low, long)) c.index-rests-vm.is (record { vcpus = []; images = [] }) in
    let made : IsVmTold (capacity_for c.args.dump.now.version c.args.dump.now.leaves) (slot_dump_at c.args.dump.now n) (slot_rest_at rests n) c.in_ok-made.made = rw (slot, rest, c.leaves.ensures, c.version-version.ensures) at c.in_ok-made.ensures in
    record {
      count = longer c.loop-vm.vms.items c.push.new.self.items _ n c.loop-vm.invariant.count c.in_ok-push.ensures.items;
      each = vms-more c.args.dump.now rests n c.loop-vm.vms.items c.push.new.self.items c.in_ok-made.made c.loop-vm.invariant.count c.loop-vm.invariant.each c.in_ok-push.ensures.items made;
    }
