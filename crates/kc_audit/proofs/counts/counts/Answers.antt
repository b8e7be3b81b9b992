use Rattle.std.proofs.Common.{◌≡◌, ◌+◌, sym, subst, ◌∙◌}
use Rattle.kc_types.specs.Limits.{slot_limit}
use Rattle.kc_audit.specs.Counts.{AreOwnerCounts}
use Rattle.kc_audit.proofs.Counted.{none-counted}
use Rattle.kc_audit.proofs.counts.counts.Goals as goal

pub count-requires-clause-none : goal.count-requires-clause-none
count-requires-clause-none c =
    let zeros = c.as_mut_slice.ensures.value ∙ c.in_ok-counts.ensures.items_if_clones_equal (λ y h. h) in
    subst (AreOwnerCounts c.frames.result.now 0 (slot_limit + 1)) (sym zeros) (none-counted c.frames.result.now (slot_limit + 1))
