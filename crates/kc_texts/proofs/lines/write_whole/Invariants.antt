use Rattle.std.proofs.Common.{◌≡◌, false, length}
use Rattle.kc_texts.proofs.Bytes.{IsSent}
use Rattle.kc_texts.proofs.lines.write_whole.Given as goal

-- how much the sink has taken
abbrev pub invariant-loop-rest : goal.invariant-loop-rest
invariant-loop-rest g l = record {
  sent : IsSent l.bytes l.rest (g.S.Sink.taken l.fn.sink) (g.S.Sink.taken l.sink);
  whole : g.S.Sink.failed l.sink ≡ false;
}

abbrev pub decreases-loop-rest : goal.decreases-loop-rest
decreases-loop-rest g l = length l.rest
