use Rattle.std.proofs.Common.{ℕ, ◌≡◌, ◌<◌, ◌≤◌, ◌&&◌, max, nat_lt, nat_le, get_or, vec_len, if◌then◌else◌}
use Rattle.kc_picture.proofs.outlines.raise.Given as goal

abbrev pub invariant-loop-column : goal.invariant-loop-column
invariant-loop-column l =
    (vec_len l.heights ≡ l.count)
    × ((k : ℕ) → k < l.count → get_or l.heights.items k 0 ≡ (if nat_le l.first k && nat_lt k l.column then max (get_or l.initial.heights.items k 0) l.number else get_or l.initial.heights.items k 0))
    × (l.column ≤ max l.first l.end)
