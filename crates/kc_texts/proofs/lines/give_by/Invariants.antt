use Rattle.std.proofs.Common.{◌≡◌, ◌≤◌, false}
use Rattle.std.specs.Vec.{vec_capacity}
use Rattle.kc_texts.proofs.Pieces.{IsGiven, text_of}
use Rattle.kc_texts.proofs.lines.give_by.Given as goal

-- the lines so far are with the sink, or in the piece
abbrev pub invariant-loop-line : goal.invariant-loop-line
invariant-loop-line g l = record {
  given : IsGiven (text_of (g.W.Way.written l.fn.way) l.fn.piece.items l.yielded) l.piece.items (g.K.Sink.taken l.fn.out) (g.K.Sink.taken l.out);
  whole : g.K.Sink.failed l.out ≡ false;
  room : g.W.Way.most l.fn.way ≤ vec_capacity l.piece;
}
