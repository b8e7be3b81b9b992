use Rattle.std.proofs.Common.{ℕ, ◌≡◌, ◌+◌, ◌<◌, drop, get_or, vec_len}
use Rattle.kc_picture.specs.Outlines.{next_step}
use Rattle.kc_picture.specs.Columns.{columns_of}
use Rattle.kc_picture.proofs.Heights.{height}
use Rattle.kc_picture.proofs.outlines.heights_of.Given as goal

abbrev pub invariant-loop-i : goal.invariant-loop-i
invariant-loop-i l =
    (vec_len l.heights ≡ columns_of l.scale.last)
    × (l.to ≡ next_step (l.scale.last + 1) (drop l.i l.steps))
    × ((c : ℕ) → c < vec_len l.heights → get_or l.heights.items c 0 ≡ height l.which l.scale.last (vec_len l.heights) c (drop l.i l.steps))
