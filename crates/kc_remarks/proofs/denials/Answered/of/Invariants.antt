use Rattle.std.proofs.Common.{take}
use Rattle.kc_remarks.specs.Denials.{Counts}
use Rattle.kc_remarks.proofs.denials.Answered.of.Given as goal

-- the counts are those of the replies so far
abbrev pub invariant-loop-reply : goal.invariant-loop-reply
invariant-loop-reply l = Counts (take l.reply-index l.replies) l.denials
