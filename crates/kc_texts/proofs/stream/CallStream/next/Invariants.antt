use Rattle.std.proofs.Common.{◌≡◌, ◌≤◌, ◌<◌, ◌-◌, length, false, Some}
use Rattle.kc_trace.specs.declared.header.Header.{Header}
use Rattle.kc_types.specs.Limits.{byte_limit}
use Rattle.kc_texts.specs.Streamed.{GoesOn}
use Rattle.kc_texts.proofs.stream.CallStream.next.Given as goal

abbrev pub invariant-loop-alloc : goal.invariant-loop-alloc
invariant-loop-alloc g l = record {
  on : GoesOn l.fn.self (record { reader = l.self-inside.reader; total = l.self-inside.total }) (g.T.Source.left l.fn.source) (g.T.Source.left l.source) l.calls.items;
  more : 0 < length l.calls.items → l.fn.self.total < l.self-inside.total;
  up : l.fn.self.total ≤ l.self-inside.total;
  few : l.self-inside.total ≤ byte_limit;
  whole : g.T.Source.failed l.source ≡ false;
  header : (header : Header) → l.fn.self.reader.progress.header ≡ Some header → l.self-inside.reader.progress.header ≡ Some header;
}

abbrev pub decreases-loop-alloc : goal.decreases-loop-alloc
decreases-loop-alloc g l = byte_limit - l.self-inside.total
