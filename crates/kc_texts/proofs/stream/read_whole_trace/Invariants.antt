use Rattle.std.proofs.Common.{◌≡◌, ◌≤◌, ◌-◌, ℕ, List, false}
use Rattle.kc_types.specs.Limits.{byte_limit}
use Rattle.kc_texts.specs.Streamed.{HasRead}
use Rattle.kc_texts.proofs.stream.read_whole_trace.Given as goal

abbrev pub invariant-loop-calls : goal.invariant-loop-calls
invariant-loop-calls g l = record {
  read : (bytes : List ℕ) × HasRead l.stream bytes l.calls.items (g.T.Source.left l.fn.source) (g.T.Source.left l.source);
  few : l.stream.total ≤ byte_limit;
  whole : g.T.Source.failed l.source ≡ false;
}

abbrev pub decreases-loop-calls : goal.decreases-loop-calls
decreases-loop-calls g l = byte_limit - l.stream.total
