use Rattle.std.proofs.Common.{◌≡◌, ◌≤◌, ◌++◌, ℕ, List, length}
use Rattle.std.specs.Prelude.{vec_capacity}
use Rattle.sha2.specs.Hashers.{Holds256}
use Rattle.kc_state_text.specs.Pieces.{longest_page_line, to_come}
use Rattle.kc_state_text.proofs.whole.hash_pieces.Given as goal

abbrev pub invariant-pieces : goal.invariant-pieces
invariant-pieces l = record {
  held : (bytes : List ℕ) → Holds256 l.fn.hasher bytes → (seen : List ℕ) × Holds256 l.hasher (bytes ++ seen) × (seen ++ to_come l.core.state l.pieces ≡ to_come l.core.state l.fn.pieces);
  room : longest_page_line ≤ vec_capacity l.piece;
}

abbrev pub decreases-pieces : goal.decreases-pieces
decreases-pieces l = length (to_come l.core.state l.pieces)
