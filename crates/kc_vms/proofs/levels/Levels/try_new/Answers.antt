use Rattle.std.proofs.Common.{ap, refl, arith}
use Rattle.kc_vms.specs.TablePool.{Pool}
use Rattle.kc_vms.proofs.Tables.{table-new}
use Rattle.kc_vms.proofs.Changes.{new-value}
use Rattle.kc_vms.proofs.levels.Levels.try_new.Goals as goal

pub returns-clause-kept : goal.returns-clause-kept
returns-clause-kept c =
    let capacity = ap (λ (p : Pool). p.capacity) c.in_ok-try_new.ensures.value in
    let space = c.in_ok-with_capacity-2.ensures.capacity in
    record {
      table = rw c.in_ok-with_capacity-2.ensures.items (table-new c.in_ok-with_capacity.field-0.items c.in_ok-try_new.field-0 (λ s. rw c.in_ok-with_capacity.ensures.items refl) (rw c.in_ok-with_capacity.ensures.items (omega arith)) c.in_ok-try_new.ensures.kept (ap (λ (p : Pool). p.taken) c.in_ok-try_new.ensures.value));
      space = omega (arith, capacity, space);
      long = rw c.in_ok-with_capacity.ensures.items (omega arith);
      few = c.requires.roots;
      room = c.in_ok-with_capacity.ensures.capacity;
    }

pub returns-clause-value : goal.returns-clause-value
returns-clause-value c = new-value c.in_ok-with_capacity.field-0.items c.in_ok-with_capacity-2.field-0.items c.in_ok-try_new.field-0 c.args.roots c.args.leaves (λ s. rw c.in_ok-with_capacity.ensures.items refl) c.in_ok-with_capacity-2.ensures.items (ap (λ (p : Pool). p.capacity) c.in_ok-try_new.ensures.value)
