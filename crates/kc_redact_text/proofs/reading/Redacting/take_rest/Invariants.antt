use Rattle.std.proofs.Common.{◌≡◌, ◌≤◌, ◌<◌, ◌-◌, false, length}
use Rattle.kc_types.specs.Limits.{byte_limit}
use Rattle.kc_core.specs.KCore.{state_in}
use Rattle.kc_redact_text.specs.Reading.{HasGoneOn}
use Rattle.kc_redact_text.proofs.reading.Redacting.take_rest.Given as goal

-- what was taken so far
abbrev pub invariant-pieces : goal.invariant-pieces
invariant-pieces g l = record {
  on : HasGoneOn (state_in l.fn.core) (state_in l.core) l.fn.self l.self (g.T.Source.left l.fn.source) (g.T.Source.left l.source);
  few : l.self.total ≤ byte_limit;
  room : 0 < length l.buffer;
  whole : g.T.Source.failed l.source ≡ false;
}

abbrev pub decreases-pieces : goal.decreases-pieces
decreases-pieces g l = byte_limit - l.self.total
