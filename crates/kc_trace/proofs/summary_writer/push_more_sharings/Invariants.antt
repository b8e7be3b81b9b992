use Rattle.std.proofs.Common.{◌≡◌, ◌++◌, take}
use Rattle.std.specs.List.{flat_map}
use Rattle.kc_trace.specs.SummaryText.{more_sharing_text}
use Rattle.kc_trace.proofs.summary_writer.push_more_sharings.Given as goal

-- the stretches so far
abbrev pub invariant-loop-sharing : goal.invariant-loop-sharing
invariant-loop-sharing l = l.text.items ≡ l.fn.text.items ++ flat_map more_sharing_text (take l.sharing-index l.sharings)
