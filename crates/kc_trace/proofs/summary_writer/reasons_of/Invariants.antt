use Rattle.std.proofs.Common.{◌≡◌, take}
use Rattle.std.specs.List.{flat_map}
use Rattle.kc_remarks.specs.Attempts.{refusals}
use Rattle.kc_trace.specs.SummaryText.{reason_text}
use Rattle.kc_trace.proofs.summary_writer.reasons_of.Given as goal

-- the reasons so far
abbrev pub invariant-loop-reason : goal.invariant-loop-reason
invariant-loop-reason l = l.text.items ≡ flat_map (reason_text l.attempts) (take l.reason-index refusals)
