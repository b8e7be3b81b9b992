use Rattle.std.proofs.Common.{arith}
use Rattle.kc_live.proofs.Logs.{kept_more}
use Rattle.kc_live.proofs.book.Book.record.Goals as goal

pub invariant_of-self-2 : goal.invariant_of-self-2
invariant_of-self-2 c = rw c.in_ok-receipt.ensures.entry (kept_more _ _ c.self.invariant (omega (arith, c.in_ok-receipt.ensures.room)))
