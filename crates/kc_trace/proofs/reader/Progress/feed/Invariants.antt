use Rattle.std.proofs.Common.{◌≡◌, length}
use Rattle.kc_trace.specs.Machine.{feed, with_front}
use Rattle.kc_trace.specs.Redacting.{read_by}
use Rattle.kc_trace.proofs.reader.Progress.feed.Given as goal

-- the calls so far, and those in the bytes that are left
abbrev pub invariant-loop-rest : goal.invariant-loop-rest
invariant-loop-rest l = with_front l.calls.items (read_by l.guests (feed l.self l.rest)) ≡ read_by l.guests (feed l.fn.self l.bytes)

abbrev pub decreases-loop-rest : goal.decreases-loop-rest
decreases-loop-rest l = length l.rest
