use Rattle.std.proofs.Common.{◌≡◌, ◌≤◌, ◌++◌, length}
use Rattle.std.specs.Prelude.{vec_capacity}
use Rattle.kc_state_text.specs.Pieces.{longest_page_line, to_come}
use Rattle.kc_state_text.proofs.whole.push_pieces.Given as goal

abbrev pub invariant-pieces : goal.invariant-pieces
invariant-pieces l = record {
  given : l.text.items ++ to_come l.core.state l.pieces ≡ l.fn.text.items ++ to_come l.core.state l.fn.pieces;
  room : longest_page_line ≤ vec_capacity l.piece;
}

abbrev pub decreases-pieces : goal.decreases-pieces
decreases-pieces l = length (to_come l.core.state l.pieces)
