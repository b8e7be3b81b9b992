use Rattle.std.proofs.Common.{◌≡◌, ◌≤◌, ◌<◌, ◌+◌, ◌-◌, ◌++◌, []}
use Rattle.std.specs.Prelude.{vec_len, vec_capacity}
use Rattle.kc_model.specs.State.{zero_page}
use Rattle.kc_state_text.specs.Pieces.{longest_page_line, to_come}
use Rattle.kc_state_text.proofs.pieces.StatePieces.give_pages.Given as goal

abbrev pub invariant-pages : goal.invariant-pages
invariant-pages l = record {
  given : l.piece.items ++ to_come l.core.state (record { form = l.self-inside.form; front = l.self-inside.front; page = l.self-inside.page; dump = l.self-inside.dump }) ≡ l.initial.piece.items ++ to_come l.core.state (record { form = l.initial.self-inside.form; front = l.initial.self-inside.front; page = l.initial.self-inside.page; dump = l.initial.self-inside.dump });
  room : vec_len l.piece + longest_page_line ≤ vec_capacity l.piece;
  capacity : vec_capacity l.initial.piece ≤ vec_capacity l.piece;
  front : l.self-inside.front ≡ [];
  zero : l.self-inside.zero.bytes ≡ zero_page;
  page : l.self-inside.page < l.core.state.config.frames;
}

abbrev pub decreases-pages : goal.decreases-pages
decreases-pages l = l.core.state.config.frames - l.self-inside.page
