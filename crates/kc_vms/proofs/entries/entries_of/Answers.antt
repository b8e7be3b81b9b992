use Rattle.std.proofs.Common.{sym, ◌∙◌, arith}
use Rattle.kc_vms.proofs.Rising.{none-below, rest-none, slot-some, slot-none}
use Rattle.kc_vms.proofs.entries.entries_of.Goals as goal
use Rattle.kc_vms.proofs.entries.entries_of.Goals.{in-Some+in_ok-push_leaf, in_default}

pub loop-slot-init : goal.loop-slot-init
loop-slot-init c = let t = c.args.levels.now in c.new-entries.ensures.items ∙ sym (none-below t.root.items t.pool)

pub loop-slot-preserved : goal.loop-slot-preserved
loop-slot-preserved c =
    let t = c.args.levels.now in
    elim c.match-leaf_at.branch [
      | in-Some+in_ok-push_leaf w ↦ rw w.entries-is (slot-some t.root.items t.pool c.loop-slot.slot _ w.in_ok-push_leaf.ensures)
      | in_default w ↦ rw w.entries-is (slot-none t.root.items t.pool c.loop-slot.slot c.loop-slot.entries.items (sym c.leaf_at.ensures ∙ w.in_default.is) c.loop-slot.invariant)
    ]

pub returns : goal.returns
returns c =
    let t = c.args.levels.now in
    let long = t.root.ok.0 in
    let end = c.len-slot-end.ensures in
    let past = c.loop-slot-test.false in
    let within = c.loop-slot.auto.slot-end in
    let few = c.requires.table.long in
    rest-none t.root.items t.pool c.loop-slot.slot c.loop-slot.entries.items (omega (arith, long, end, past)) (omega (arith, long, end, within, few)) c.loop-slot.invariant
