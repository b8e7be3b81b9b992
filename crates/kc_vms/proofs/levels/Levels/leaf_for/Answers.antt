use Rattle.std.proofs.Common.{sym, ◌∙◌, arith, length-set}
use Rattle.kc_vms.proofs.Tables.{table-led, table-widened}
use Rattle.kc_vms.proofs.Changes.{led-found, led-fresh}
use Rattle.kc_vms.proofs.levels.Levels.leaf_for.Goals as goal

pub returns-in-Some-clause-leaf : goal.returns-in-Some-clause-leaf
returns-in-Some-clause-leaf c = led-found c.args.self.now c.args.slot c.in-Some.leaf c.requires.kept (sym c.leaf_at.ensures ∙ c.in-Some.is)

pub returns-clause-kept : goal.returns-clause-kept
returns-clause-kept c =
    let taken = c.in_ok-leaf.ensures.leaf in
    let pushed = rw c.unwrap.ensures at c.push.ensures.items in
    let space = c.push.ensures.capacity in
    let before = c.requires.kept.space in
    let wide = c.widen.ensures in
    let t = c.args.self.now in
    record {
      table = rw (taken.2, pushed, c.of.ensures) (table-led c.widen.new.root.items t.leaves.items t.pool c.args.slot c.in_ok-leaf.leaf (table-widened t.root.items c.widen.new.root.items t.leaves.items t.pool c.requires.kept.table wide.same (let most = c.requires.kept.few in let within = c.requires.within in wide.few 262144 (omega (arith, most, within)) (let long = c.requires.kept.long in omega (arith, long, most)))) (wide.same c.args.slot ∙ sym c.leaf_at.ensures ∙ c.in_default.is) wide.here taken.0 (rw taken.2 at c.in_ok-leaf.ensures.kept));
      space = rw taken.2 (omega (arith, space, before));
      long = rw length-set (wide.few t.roots c.requires.within c.requires.kept.long);
      few = c.requires.kept.few;
      room = let room = wide.room in let was = c.requires.kept.room in omega (arith, room, was);
    }

pub returns-clause-leaf : goal.returns-clause-leaf
returns-clause-leaf c =
    let taken = c.in_ok-leaf.ensures.leaf in
    let wide = c.widen.ensures in
    rw c.of.ensures (led-fresh c.args.self.now c.widen.new.root.items c.push.new.self.items c.take_leaf.new.self c.args.slot c.in_ok-leaf.leaf c.requires.kept (sym c.leaf_at.ensures ∙ c.in_default.is) wide.same (let most = c.requires.kept.few in let within = c.requires.within in wide.few 262144 (omega (arith, most, within)) (let long = c.requires.kept.long in omega (arith, long, most))) wide.here taken.0 taken.1 taken.2 (rw c.unwrap.ensures at c.push.ensures.items))
