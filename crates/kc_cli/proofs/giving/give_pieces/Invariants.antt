use Rattle.std.proofs.Common.{◌≡◌, ◌≤◌, ◌++◌, ℕ, List, length, false}
use Rattle.std.specs.Prelude.{vec_capacity}
use Rattle.std.specs.Io.KnownBytes.{Appends}
use Rattle.kc_state_text.specs.Pieces.{longest_page_line, to_come}
use Rattle.kc_cli.proofs.giving.give_pieces.Given as goal

abbrev pub invariant-pieces : goal.invariant-pieces
invariant-pieces g l = record {
  given : (bytes : List ℕ) × Appends (g.K.Sink.taken l.fn.out) (g.K.Sink.taken l.out) bytes × (bytes ++ to_come l.core.state l.pieces ≡ to_come l.core.state l.fn.pieces);
  room : longest_page_line ≤ vec_capacity l.piece;
  mark : g.K.Sink.failed l.out ≡ false;
}

abbrev pub decreases-pieces : goal.decreases-pieces
decreases-pieces g l = length (to_come l.core.state l.pieces)
