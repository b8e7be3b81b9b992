use Rattle.std.proofs.Common.{◌≡◌, false, is_some, sym, ap, ◌∙◌}
use Rattle.std.specs.FinMap as finite
use Rattle.kc_vms.proofs.Lookups.{led-taken}
use Rattle.kc_vms.proofs.Changes.{mapped-ok, faults-full}
use Rattle.kc_vms.proofs.table.Stage2.map.Goals as goal

pub returns-in_default-clause-answer : goal.returns-in_default-clause-answer
returns-in_default-clause-answer c =
    let led = c.in_default.ensures.leaf in
    let unmapped : is_some (finite.get c.args.self.now.mapped c.args.gfn) ≡ false = sym (c.is_some.ensures ∙ ap is_some c.get.ensures) ∙ c.if-is_some.false in
    let unmapped_inside = rw (← c.self.view_is) at unmapped in
    rw (← c.self.view_is) (faults-full c.self.inside.levels c.number-number.result c.args.gfn c.self.invariant c.number-number.ensures.value led.1 led.2 unmapped_inside)

pub set_entry-requires-clause-taken : goal.set_entry-requires-clause-taken
set_entry-requires-clause-taken c = led-taken _ _ _ _ _ c.leaf_for.ensures.kept.table c.in-Some.ensures.leaf.0

pub returns-clause-ok : goal.returns-clause-ok
returns-clause-ok c = rw (← c.self.view_is) (mapped-ok c.self.inside.levels c.leaf_for.new.self c.set_entry.new.self c.number-number.result c.args.gfn c.in-Some.leaf c.args.frame c.leaf_for.ensures.kept c.number-number.ensures.value c.number-number.ensures.within c.in-Some.ensures.leaf c.set_entry.ensures.value)
