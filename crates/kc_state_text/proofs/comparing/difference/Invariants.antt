use Rattle.std.proofs.Common.{◌≡◌, ◌≤◌, ◌++◌, ℕ, List, length}
use Rattle.std.specs.Prelude.{vec_capacity}
use Rattle.kc_state_text.specs.Pieces.{longest_page_line, to_come}
use Rattle.kc_state_text.proofs.comparing.difference.Given as goal

-- the same bytes were left out of both
abbrev pub invariant-pieces : goal.invariant-pieces
invariant-pieces l = record {
  same : (front : List ℕ) × (l.text ≡ front ++ l.rest) × (to_come l.core.state l.initial.pieces ≡ front ++ to_come l.core.state l.pieces);
  room : longest_page_line ≤ vec_capacity l.piece;
}

abbrev pub decreases-pieces : goal.decreases-pieces
decreases-pieces l = length (to_come l.core.state l.pieces)
