use Rattle.std.proofs.Common.{ap, refl, arith}
use Rattle.kc_vms.specs.TablePool.{Pool}
use Rattle.kc_vms.proofs.Tables.{table-new}
use Rattle.kc_vms.proofs.Changes.{new-value}
use Rattle.kc_vms.proofs.levels.Levels.clear.Goals as goal

pub returns-clause-kept : goal.returns-clause-kept
returns-clause-kept c =
    let capacity = ap (λ (p : Pool). p.capacity) c.reset.ensures.value in
    let space = c.requires.space in
    let same = c.clear-2.ensures.capacity in
    let room = c.requires.room in
    let kept = c.clear.ensures.capacity in
    record {
      table = rw c.clear-2.ensures.items (table-new c.clear.new.self.items c.reset.new.self (λ s. rw c.clear.ensures.items refl) (rw c.clear.ensures.items (omega arith)) c.reset.ensures.kept (ap (λ (p : Pool). p.taken) c.reset.ensures.value));
      space = omega (arith, capacity, space, same);
      long = rw c.clear.ensures.items (omega arith);
      few = c.requires.few;
      room = omega (arith, room, kept);
    }

pub returns-clause-value : goal.returns-clause-value
returns-clause-value c = new-value c.clear.new.self.items c.clear-2.new.self.items c.reset.new.self c.args.self.now.roots c.args.self.now.pool.capacity (λ s. rw c.clear.ensures.items refl) c.clear-2.ensures.items (ap (λ (p : Pool). p.capacity) c.reset.ensures.value)
