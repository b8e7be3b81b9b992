use Rattle.std.proofs.Common.{◌<◌, ◌≤◌, sym}
use Rattle.kc_types.specs.Configuration.{slot_count}
use Rattle.kc_core.proofs.Shown.{vm-past, vm-listed, vm-absent}
use Rattle.kc_core.proofs.look_ups.vm_frames.Goals as goal

pub returns-then-index-slots : goal.returns-then-index-slots
returns-then-index-slots c =
    let past : slot_count c.args.config.now ≤ c.args.vm = rw (c.index.ensures.value, c.slots.ensures.value) at c.if-index-slots.true in
    rw (vm-past c.args.config.now c.args.parts.now c.args.vm past) c.new.ensures.items

pub returns-in-Some : goal.returns-in-Some
returns-in-Some c =
    let low : c.args.vm < slot_count c.args.config.now = rw (c.index.ensures.value, c.slots.ensures.value) at c.if-index-slots.false in
    rw (vm-listed c.args.config.now c.args.parts.now c.args.vm c.in-Some.vm.now low (sym c.in-Some.ensures)) (rw c.list.ensures at c.listed.ensures)

pub returns-in-None : goal.returns-in-None
returns-in-None c =
    let low : c.args.vm < slot_count c.args.config.now = rw (c.index.ensures.value, c.slots.ensures.value) at c.if-index-slots.false in
    rw (vm-absent c.args.config.now c.args.parts.now c.args.vm (sym c.in-None.ensures) low) c.new-in-None.ensures.items
