use Rattle.kc_live.proofs.Logs.{kept_next}
use Rattle.kc_live.proofs.book.Book.turn.Goals as goal

pub invariant_of-self : goal.invariant_of-self
invariant_of-self c = rw c.turn-entries.ensures.next (kept_next _ c.self.invariant)
