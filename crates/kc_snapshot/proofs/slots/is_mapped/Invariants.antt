use Rattle.std.proofs.Common.{ℕ, ◌≡◌, ◌<◌, ◌+◌, true}
use Rattle.kc_snapshot.proofs.Mapped.{has}
use Rattle.kc_snapshot.proofs.slots.is_mapped.Given as goal

abbrev pub invariant-loop-page : goal.invariant-loop-page
invariant-loop-page l = (k : ℕ) → k < l.page → has l.entries (l.image.base + k) ≡ true
