use Rattle.std.proofs.Common.{arith}
use Rattle.kc_live.proofs.Logs.{served_more}
use Rattle.kc_live.proofs.Witnessed.{more_seen}
use Rattle.kc_live.proofs.journal.Journal.step.Goals as goal

pub invariant_of-self : goal.invariant_of-self
invariant_of-self c =
    let before = c.self.invariant in
    let seen = more_seen c.self.inside.entries.items c.push_reserved.new.self.items c.make-entry.result.0 c.self.inside.seen c.self.inside.witness c.self.inside.header c.push_reserved.ensures.items before.2 before.3 in (
      rw (c.push_reserved.ensures.items, c.make-entry.ensures.entry, c.make-entry.ensures.state) (served_more _ _ before.0 (omega arith)),
      rw c.push_reserved.ensures.capacity before.1,
      seen.0,
      seen.1,
      before.4,
    )
