use Rattle.std.proofs.Common.{◌≡◌, ◌++◌, take}
use Rattle.std.specs.List.{flat_map}
use Rattle.kc_trace.specs.SummaryText.{life_line}
use Rattle.kc_trace.proofs.summary_writer.push_lives.Given as goal

-- the lives so far
abbrev pub invariant-loop-life : goal.invariant-loop-life
invariant-loop-life l = l.text.items ≡ l.fn.text.items ++ flat_map (life_line l.is_unseen l.attempts) (take l.life-index l.lives)
