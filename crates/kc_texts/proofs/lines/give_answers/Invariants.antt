use Rattle.std.proofs.Common.{◌≡◌, ◌≤◌, false}
use Rattle.std.specs.List.{flat_map, range_with_len}
use Rattle.std.specs.Vec.{vec_capacity}
use Rattle.kc_trace.specs.AnswerText.{answer_at, longest_answer}
use Rattle.kc_texts.proofs.Pieces.{IsGiven}
use Rattle.kc_texts.proofs.lines.give_answers.Given as goal

-- the lines so far are with the sink, or in the piece
abbrev pub invariant-loop-i : goal.invariant-loop-i
invariant-loop-i g l = record {
  given : IsGiven (flat_map (answer_at l.calls l.replies) (range_with_len 0 l.i)) l.piece.items (g.K.Sink.taken l.fn.out) (g.K.Sink.taken l.out);
  whole : g.K.Sink.failed l.out ≡ false;
  room : longest_answer ≤ vec_capacity l.piece;
}
