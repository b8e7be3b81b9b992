use Rattle.std.proofs.Common.{◌≡◌, ◌≤◌, false}
use Rattle.std.specs.List.{range_with_len}
use Rattle.std.specs.Vec.{vec_capacity}
use Rattle.kc_texts.proofs.Pieces.{IsGiven, text_of}
use Rattle.kc_cli.specs.Lines.{placed_answer_at, longest_placed_answer}
use Rattle.kc_cli.proofs.placing.give_placed.Given as goal

-- the lines so far are with the sink, or in the piece
abbrev pub invariant-loop-i : goal.invariant-loop-i
invariant-loop-i g l = record {
  given : IsGiven (text_of (placed_answer_at l.volumes l.calls l.replies) l.fn.piece.items (range_with_len 0 l.i)) l.piece.items (g.K.Sink.taken l.fn.out) (g.K.Sink.taken l.out);
  whole : g.K.Sink.failed l.out ≡ false;
  room : longest_placed_answer ≤ vec_capacity l.piece;
}
