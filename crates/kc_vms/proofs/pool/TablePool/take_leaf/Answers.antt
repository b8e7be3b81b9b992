use Rattle.std.proofs.Common.{ℕ, ◌+◌, List, Option, ap, ◌∙◌, arith}
use Rattle.kc_vms.specs.TablePool.{Pool, with_taken_leaf}
use Rattle.kc_vms.proofs.Tables.{longer-by-leaf}
use Rattle.kc_vms.proofs.pool.TablePool.take_leaf.Goals as goal

pub returns-clause-leaf : goal.returns-clause-leaf
returns-clause-leaf c =
    let taken = ap (λ (p : Pool). p.taken) c.self.view_is in
    let capacity = ap (λ (p : Pool). p.capacity) c.self.view_is in
    let within = c.self.invariant.0.within in
    let free = c.if-self.false in
    let longer = longer-by-leaf c.self.inside.entries.items c.self.inside.taken c.self.invariant.0.long (grind (arith, c.self.ranges)) (rw (c.unwrap.ensures, c.of.ensures) at c.resize.ensures.items) in (
      c.of-leaf.ensures ∙ taken,
      rw (← taken, ← capacity) (omega (arith, within, free)),
      ap (λ (es : List (Option ℕ)). record { entries = es; taken = c.self.inside.taken + 1; capacity = c.self.inside.capacity }) longer ∙ ap with_taken_leaf c.self.view_is,
    )
